use Rattle.std.proofs.Common.{ℕ, ◌<◌}
use Rattle.std.specs.Prelude.{IsTrue}
use Rattle.bg_dice.specs.Rolls.{dice_at, is_passed_over}
use Rattle.bg_dice.proofs.rolls.drawn_behind.Given as goal

abbrev pub invariant-loop-attempt : goal.invariant-loop-attempt
invariant-loop-attempt l =
    (earlier : ℕ) → earlier < l.attempt → IsTrue (is_passed_over l.opens (dice_at l.secret l.before earlier))
