use Rattle.std.proofs.Common.{◌≡◌, ◌∙◌, subst, sym, ap, refl, List}
use Rattle.bg_match.specs.Terms.{rules_of}
use Rattle.bg_match.specs.declared.entries.Entry.{Entry}
use Rattle.bg_wire.specs.Packets.PacketText.{id_of, packet_rules}
use Rattle.bg_party.specs.Views.{FollowerView}
use Rattle.bg_party.specs.Learns.{Teaches}
use Rattle.bg_party.proofs.Holding.{learns_entries}
use Rattle.bg_party.proofs.follower.Follower.learn_from.Goals as goal

pub returns-in-Entries-clause-learns : goal.returns-in-Entries-clause-learns
returns-in-Entries-clause-learns c =
    let f : FollowerView =
    record { log = c.self.inside.log; early = c.self.inside.window; retry = c.self.inside.retry } in
    let list : c.as_slice.result.now ≡ c.in-Entries.list = c.as_slice.ensures.value ∙ c.list.view_is in
    let of = c.if-not-is_of.ensures.of.0 refl in
    let same : (c.in-Entries.id ≡ c.self.inside.log.id) × (c.in-Entries.rules ≡ rules_of c.self.inside.log.terms) =
    (sym (ap id_of c.in-Entries.is) ∙ of.0 ∙ c.id.ensures, sym (ap packet_rules c.in-Entries.is) ∙ of.1 ∙ c.rules.ensures) in
    rw (c.in-Entries.is, ← c.self.view_is)
    (learns_entries f c.in-Entries.id c.in-Entries.rules c.in-Entries.start c.in-Entries.list c.learn.result same
    (subst (λ (l : List Entry). Teaches f c.in-Entries.start l c.learn.result) list
    (rw (← c.self.view_is) at c.learn.ensures.teaches)))
