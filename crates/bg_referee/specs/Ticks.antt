-- What the referee sends without having been asked for.
use Rattle.std.specs.Prelude.{◌≡◌, ℕ, ◌+◌, List, All}
use Rattle.std.specs.List.{AllZip}
use Rattle.bg_match.specs.Terms.{rules_of}
use Rattle.bg_match.specs.declared.entries.Entry.{Entry}
use Rattle.bg_wire.specs.Packets.PacketText.{IsPacket}
use Rattle.bg_wire.specs.declared.packets.Packet.{Packet}
use Rattle.bg_wire.specs.declared.packets.Packet.TheVariants as packet
use Rattle.bg_referee.specs.Referee.{RefereeView, IsShown}
use Rattle.bg_referee.specs.Sessions.{pushed, after_pushes}
use Rattle.bg_referee.specs.Takes.{TellsSaved}

-- beside a party and the number of its last entry: the packet goes to the party, and shows the
-- saved entries behind it
abbrev pub IsPush : RefereeView → ℕ × ℕ → ℕ × Packet → Type 0
IsPush r one push =
    (push.0 ≡ one.0)
    × ((list : List Entry) × IsShown r (one.1 + 1) list
    × (push.1 ≡ packet.Entries r.log.id (rules_of r.log.terms) (one.1 + 1) list))

-- a packet for each of them, in their order
abbrev pub ArePushes : RefereeView → List (ℕ × ℕ) → List (ℕ × Packet) → Type 0
ArePushes r some pushes = AllZip (IsPush r) some pushes

-- what a tick sends, each packet beside the party that it goes to: one for each of the first two
-- parties that are known to have less than is saved; and the referee afterwards, who knows that
-- they have what it told them
pub record RefereeTicks (old : RefereeView) (sent : List (ℕ × Packet)) (new : RefereeView) : Type 0 where
  pub pushes : ArePushes old (pushed old.sessions old.saved) sent
  -- each tells saved entries, and has a text
  pub tells : All (λ push. TellsSaved old push.1) sent
  pub fits : All (λ push. IsPacket push.1) sent
  pub after : new ≡ record old { sessions = after_pushes old.sessions old.saved (pushed old.sessions old.saved) }
