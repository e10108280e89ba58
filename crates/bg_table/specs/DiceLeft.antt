-- The dice that are left for the steps of a turn.
use Rattle.std.specs.Prelude.{◌≡◌, ◌≢◌, ◌⊎◌, ◌==◌, ℕ, ◌-◌, ◌≤◌, List, [], ◌∷◌, if◌then◌else◌}
use Rattle.bg_board.specs.FromTo.{FromTo}
use Rattle.bg_board.specs.Die.{pips}
use Rattle.bg_turns.specs.Dice.{first_pips, larger_die, second_pips}
use Rattle.bg_turns.specs.declared.throws.Dice.{Dice}
use Rattle.bg_table.specs.declared.dice_left.DiceLeft.{DiceLeft}
use Rattle.bg_table.specs.declared.dice_left.DiceLeft.TheVariants.{Both, One, Neither}

-- the die by which a step is judged: the one that shows its pips, else the larger one
abbrev pub judging_pips : FromTo → Dice → ℕ
judging_pips step dice =
    if first_pips dice == step.from - step.to then first_pips dice
    else if second_pips dice == step.from - step.to then second_pips dice
    else larger_die dice

-- the die that is left behind a step, which takes the one that judges it
abbrev pub other_pips : FromTo → Dice → ℕ
other_pips step dice = if judging_pips step dice == first_pips dice then second_pips dice else first_pips dice

-- these dice are left when so many of the steps have been played: both before the first step, and
-- of equal dice one for each step of a turn; of other dice one behind one step, and none behind two
abbrev pub AreLeft : Dice → List FromTo → ℕ → DiceLeft → Type 0
AreLeft dice steps playable Both = (playable ≡ 0) ⊎ (first_pips dice ≡ second_pips dice) ⊎ (steps ≡ [])
AreLeft dice steps playable (One die) =
    (step : FromTo) × (rest : List FromTo) × (steps ≡ step ∷ rest) × (playable ≡ 1)
    × (first_pips dice ≢ second_pips dice) × (pips die ≡ other_pips step dice)
AreLeft dice steps playable Neither = (2 ≤ playable) × (first_pips dice ≢ second_pips dice)
