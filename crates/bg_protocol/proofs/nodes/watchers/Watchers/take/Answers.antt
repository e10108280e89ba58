use Rattle.std.proofs.Common.{◌∙◌, refl, subst}
use Rattle.std.proofs.lemmas.Option.{slice_get_read}
use Rattle.bg_party.specs.Views.{WatcherView}
use Rattle.std.specs.Prelude.{List, slice_set}
use Rattle.bg_protocol.specs.Worlds.Nodes.{WatchersTake}
use Rattle.bg_protocol.specs.Worlds.Views.{link_view}
use Rattle.bg_protocol.proofs.ReachedWorlds.Numbered.{set_numbered, take_keeps, takes_at}
use Rattle.bg_protocol.proofs.nodes.watchers.Watchers.take.Goals as goal

pub invariant_of-self-inside-2 : goal.invariant_of-self-inside-2
invariant_of-self-inside-2 g c =
    let nodes = c.self.inside.nodes in
    let node = c.in-Some.node.now in
    let is = slice_get_read nodes.items nodes.len c.args.index node nodes.ok.0 (c.in-Some.ensures.variant.0 refl)
    c.in-Some.ensures.value in
    let same = take_keeps g.L.Link.is_honest node.party (link_view g.L.Link c.args.link.now) node c.args.pick
    c.take_into.new.outcome (link_view g.L.Link c.take_into.new.link) c.take_into.new.self c.take_into.ensures in (
      c.self.inside.few,
      (
        set_numbered nodes.items c.args.index c.take_into.new.self c.self.inside.numbered
            (same ∙ c.self.inside.numbered c.args.index node is),
        tt,
      ),
    )

pub returns : goal.returns
returns g c =
    let nodes = c.self.inside.nodes in
    let node = c.in-Some.node.now in
    let is = slice_get_read nodes.items nodes.len c.args.index node nodes.ok.0 (c.in-Some.ensures.variant.0 refl)
    c.in-Some.ensures.value in
    subst (λ (old : List WatcherView). WatchersTake g.L.Link.is_honest (link_view g.L.Link c.args.link.now) old
    c.args.index c.args.pick c.take_into.new.outcome (link_view g.L.Link c.take_into.new.link)
    (slice_set nodes.items c.args.index c.take_into.new.self)) c.self.view_is
    (takes_at g.L.Link.is_honest (link_view g.L.Link c.args.link.now) nodes.items c.args.index c.args.pick c.take_into.new.outcome
    (link_view g.L.Link c.take_into.new.link) node c.take_into.new.self is
    (c.self.inside.numbered c.args.index node is) c.take_into.ensures)
