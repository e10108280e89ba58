use Rattle.std.proofs.Common.{length}
use Rattle.bg_typed.proofs.ReadWords.{IsReadUpTo}
use Rattle.bg_typed.proofs.words.read_legs.Given as goal

abbrev pub invariant-loop-word : goal.invariant-loop-word
invariant-loop-word l = IsReadUpTo l.text l.rest l.legs.items l.too_many

abbrev pub decreases-loop-word : goal.decreases-loop-word
decreases-loop-word l = length l.rest
