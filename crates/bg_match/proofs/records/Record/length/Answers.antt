use Rattle.bg_match.proofs.Kept.{kept_log}
use Rattle.bg_match.proofs.records.Record.length.Goals as goal

pub returns-clause-log : goal.returns-clause-log
returns-clause-log c = rw (← c.self.view_is) (kept_log _ _ _ _ _ _ c.self.invariant)
