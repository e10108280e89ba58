use Rattle.std.proofs.Common.{◌≡◌, take}
use Rattle.bg_reports.specs.Harmless.{shown}
use Rattle.bg_reports.proofs.escapes.shown.Given as goal

abbrev pub invariant-loop-byte : goal.invariant-loop-byte
invariant-loop-byte l = l.text.items ≡ shown (take l.byte-index l.bytes)
