use Rattle.std.proofs.Common.{arith, subst, sym}
use Rattle.bg_protocol.specs.Worlds.Views.{AreNumbered}
use Rattle.bg_protocol.proofs.ReachedWorlds.Numbered.{fresh_numbered}
use Rattle.bg_protocol.proofs.nodes.watchers.Watchers.fresh.Goals as goal

pub invariant_of-result : goal.invariant_of-result
invariant_of-result c = (
  omega arith,
  (
    subst AreNumbered (sym c.loop-index.invariant.value)
        (fresh_numbered c.args.id c.args.terms c.loop-index.index),
    tt,
  ),
)
