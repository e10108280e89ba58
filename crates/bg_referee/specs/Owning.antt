-- Which entry the referee tries where he acts: words of a private contract, of which no public
-- clause speaks.
use Rattle.std.specs.Prelude.{◌≡◌, ◌≢◌, ◌⊎◌, ℕ, Some}
use Rattle.bg_match.specs.declared.entries.Entry.{Entry}
use Rattle.bg_match.specs.declared.entries.Entry.TheVariants.{Opening, Passed}
use Rattle.bg_match.specs.Match.{Log}
use Rattle.bg_turns.specs.declared.throws.Dice.{Dice}
use Rattle.bg_turns.specs.Dice.{dice_of, first_pips, second_pips}
use Rattle.bg_referee.specs.Dues.{OpensAfter}

-- where a game is to be opened an opening with the word's dice, which differ; and else a pass
abbrev pub IsOwn : Log → ℕ → Entry → Type 0
IsOwn log word e =
    (OpensAfter log.terms log.entries
    × ((dice : Dice) × (dice_of word ≡ Some dice) × (first_pips dice ≢ second_pips dice)
    × (e ≡ Opening dice.first dice.second)))
    ⊎ ((OpensAfter log.terms log.entries → ⊥) × (e ≡ Passed))
