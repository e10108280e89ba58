-- A referee that has nothing to send.
use Rattle.std.specs.Prelude.{◌≡◌, ℕ, List, []}
use Rattle.bg_wire.specs.declared.packets.Packet.{Packet}
use Rattle.bg_referee.specs.Referee.{RefereeView}
use Rattle.bg_parties.specs.Calls.{PartyTicks}
use Rattle.bg_parties.specs.declared.cores.Core.{Core}
use Rattle.bg_parties.specs.declared.cores.Core.TheVariants as core

-- a referee whose tick sends nothing is as it was before, and no tick of it sends anything
abbrev pub IdleStays : Type 0
IdleStays =
    (referee : RefereeView) (after : Core) → PartyTicks (core.Referee referee) [] after
    → (after ≡ core.Referee referee)
    × ((sent : List (ℕ × Packet)) (next : Core) → PartyTicks (core.Referee referee) sent next → sent ≡ [])
