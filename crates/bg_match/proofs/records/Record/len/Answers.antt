use Rattle.bg_match.proofs.Legal.{entries_in_range}
use Rattle.bg_match.proofs.Kept.{kept_log}
use Rattle.bg_match.proofs.records.Record.len.Goals as goal

pub returns-clause-legal : goal.returns-clause-legal
returns-clause-legal c = rw (← c.self.view_is) (c.self.invariant.few, (_, c.self.invariant.stands))

pub returns-clause-log : goal.returns-clause-log
returns-clause-log c = rw (← c.self.view_is) (kept_log _ _ _ _ _ _ c.self.invariant)

pub returns-clause-in_range : goal.returns-clause-in_range
returns-clause-in_range c = rw (← c.self.view_is) (entries_in_range _ _ (c.self.invariant.few, (_, c.self.invariant.stands)))
