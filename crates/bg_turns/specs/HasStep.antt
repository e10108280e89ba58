-- Whether a player has a step at all, as a truth value: what is printed, and who acts, may depend
-- on it.
use Rattle.std.specs.Prelude.{◌≡◌, ◌↔◌, ◌==◌, ◌&&◌, ◌||◌, ℕ, zero, suc, ◌-◌, Bool, false, nat_lt, nat_le}
use Rattle.bg_board.specs.FromTo.{FromTo}
use Rattle.bg_board.specs.Position.{Position, count, count_above, opponent}
use Rattle.bg_board.specs.declared.players.Player.{Player}
use Rattle.bg_turns.specs.Dice.{dice_list, first_pips, second_pips}
use Rattle.bg_turns.specs.Turn.{IsLongest}
use Rattle.bg_turns.specs.declared.throws.Dice.{Dice}

-- the tests of a step, one after the other
abbrev pub is_step : Position → Player → FromTo → ℕ → Bool
is_step b player step die =
    nat_le step.from 25 && (nat_lt step.to step.from && (nat_lt 0 (count b player step.from)
    && ((count b player 25 == 0 || step.from == 25) && (step.to == step.from - die
    && ((step.to == 0 || nat_le (count b (opponent player) (25 - step.to)) 1)
    && ((nat_lt 0 step.to || count_above b player 6 == 0)
    && (nat_lt 0 step.to || (nat_le die step.from || count_above b player step.from == 0))))))))

-- from one of the first points, up to this one, he has a step by this die
abbrev pub steps_by : Position → Player → ℕ → ℕ → Bool
steps_by b player die zero = false
steps_by b player die (suc n) =
    is_step b player (record { from = suc n; to = suc n - die }) die || steps_by b player die n

-- he has a step by one of the dice
unfoldable pub has_step : Position → Player → Dice → Bool
has_step b player dice = steps_by b player (first_pips dice) 25 || steps_by b player (second_pips dice) 25

-- he has none exactly where no list of steps that can be played is longer than none
abbrev pub TellsSteps : Type 0
TellsSteps = (b : Position) (player : Player) (dice : Dice)
    → (has_step b player dice ≡ false) ↔ IsLongest b player (dice_list dice) 0
