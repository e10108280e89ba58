use Rattle.std.proofs.Common.{ap, refl, subst}
use Rattle.std.proofs.lemmas.Option.{slice_get_read}
use Rattle.bg_party.specs.Views.{WatcherView}
use Rattle.std.specs.Prelude.{List, slice_set}
use Rattle.bg_protocol.specs.Worlds.Nodes.{WatchersRestart}
use Rattle.bg_protocol.specs.declared.events.Outcome.TheVariants as outcomes
use Rattle.bg_protocol.proofs.ReachedWorlds.Numbered.{restarts_at, set_numbered}
use Rattle.bg_protocol.proofs.nodes.watchers.Watchers.restart.Goals as goal

pub invariant_of-self-inside-2 : goal.invariant_of-self-inside-2
invariant_of-self-inside-2 c = (
  c.self.inside.few,
  (
    set_numbered c.self.inside.nodes.items c.args.index c.fresh_at.result c.self.inside.numbered
        (ap (λ (v : WatcherView). v.party) c.fresh_at.ensures),
    tt,
  ),
)

pub returns : goal.returns
returns c =
    let nodes = c.self.inside.nodes in
    let node = c.in-Some.node.now in
    let is = slice_get_read nodes.items nodes.len c.args.index node nodes.ok.0 (c.in-Some.ensures.variant.0 refl)
    c.in-Some.ensures.value in
    subst (λ (old : List WatcherView). WatchersRestart c.args.id c.args.terms old c.args.index outcomes.Restarted
    (slice_set nodes.items c.args.index c.fresh_at.result)) c.self.view_is
    (restarts_at c.args.id c.args.terms nodes.items c.args.index node c.fresh_at.result is c.fresh_at.ensures)
