use Rattle.std.proofs.Common.{◌≡◌, ◌++◌, take}
use Rattle.bg_states.specs.Quoting.{escaped}
use Rattle.bg_states.proofs.quoting.put_escaped.Given as goal

abbrev pub invariant-loop-byte : goal.invariant-loop-byte
invariant-loop-byte l = l.out.items ≡ l.initial.out.items ++ escaped (take l.byte-index l.bytes)
