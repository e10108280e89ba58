use Rattle.bg_table.proofs.Latest.{made_none, none_above}
use Rattle.bg_table.proofs.last_entries.last_of.Goals as goal

pub loop-behind-preserved : goal.loop-behind-preserved
loop-behind-preserved c =
    none_above c.args.log.now c.args.player c.len-count.result c.loop-behind.behind c.is_by.result c.loop-behind-test.true
    c.loop-behind.invariant c.is_by.ensures c.if-is_by.false

pub returns-clause-last : goal.returns-clause-last
returns-clause-last c =
    made_none c.args.log.now c.args.player c.len-count.result c.loop-behind.behind c.loop-behind-test.false c.loop-behind.invariant
