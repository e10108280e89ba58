use Rattle.std.proofs.Common.{rules}
use Rattle.bg_reports.proofs.HeldFiles.{loads_as}
use Rattle.bg_reports.proofs.showing.hold.Goals.{in_default-via-in-Err+in-Short-1, in_default-via-in-Ok-1}
use Rattle.bg_reports.proofs.showing.hold.Goals as goal

pub returns-in_default-clause-loads : goal.returns-in_default-clause-loads
returns-in_default-clause-loads c = elim c.in_default-1.branch [
  | in_default-via-in-Err+in-Short-1 w ↦
      loads_as c.args.bytes.now _ c.load.result (search rules) c.load.ensures.found c.load.ensures.only (search rules)
  | in_default-via-in-Ok-1 w ↦
      loads_as c.args.bytes.now _ c.load.result (search rules) c.load.ensures.found c.load.ensures.only (search rules)
]
