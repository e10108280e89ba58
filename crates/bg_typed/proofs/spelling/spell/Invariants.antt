use Rattle.std.proofs.Common.{◌≡◌, ◌++◌, length}
use Rattle.std.specs.Prelude.{map}
use Rattle.bg_typed.specs.Spelling.{spelled_byte, spelled, written_out}
use Rattle.bg_typed.proofs.spelling.spell.Given as goal

abbrev pub invariant-loop-first : goal.invariant-loop-first
invariant-loop-first l = l.text.items ++ written_out l.begins (map spelled_byte l.rest) ≡ spelled l.typed

abbrev pub decreases-loop-first : goal.decreases-loop-first
decreases-loop-first l = length l.rest
