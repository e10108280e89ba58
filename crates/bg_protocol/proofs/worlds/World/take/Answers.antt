use Rattle.std.proofs.Common.{◌≡◌, ℕ, refl, sym, subst}
use Rattle.bg_wire.specs.Parties.{party_of}
use Rattle.bg_protocol.specs.Protocol.Roles.{role}
use Rattle.bg_protocol.specs.Worlds.Calls.{TakeCalls}
use Rattle.bg_protocol.specs.Worlds.World.{view_of}
use Rattle.bg_protocol.specs.declared.roles.Role.{Role}
use Rattle.bg_protocol.specs.declared.roles.Role.TheVariants as roles
use Rattle.bg_protocol.proofs.worlds.World.take.Goals as goal

pub returns-in-Seat-clause-calls : goal.returns-in-Seat-clause-calls
returns-in-Seat-clause-calls g c =
    let honest = g.L.Link.is_honest in
    let old = view_of g.L.Link g.K.Keeper c.args.self.now in
    let new = view_of g.L.Link g.K.Keeper c.take_at_seat.new.self in
    let player = c.in-Seat.player in
    let party : party_of player ≡ c.args.party = sym (c.in-Seat.ensures.seat player refl) in
    let role_is : roles.Seat player ≡ role c.args.party = c.in-Seat.ensures.value in
    subst (λ (r : Role). TakeCalls honest old r c.args.party c.args.pick c.args.word c.take_at_seat.new.outcome new) role_is
    (subst (λ (p : ℕ). TakeCalls honest old (roles.Seat player) p c.args.pick c.args.word c.take_at_seat.new.outcome new)
    party (c.take_at_seat.ensures.calls c.args.word))
