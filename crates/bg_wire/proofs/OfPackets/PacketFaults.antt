-- Bytes have one fault as a packet's text, and a packet's text has none.
use Rattle.std.proofs.Common.{false, ◌≡◌, ◌≢◌, ℕ, ◌<◌, ◌≤◌, List, ◌∷◌, ◌++◌, length, refl, sym, subst, arith, inl, inr}
use Rattle.std.specs.Prelude.{◌==◌}
use Rattle.std.proofs.lemmas.Bool.Decides.{nat_tests}
use Rattle.std.specs.Int.{w32, to_be_bytes}
use Rattle.bg_match.specs.declared.limits.Rules.{Rules}
use Rattle.bg_wire.specs.Entries.Codes.{magic_offset, version_offset, kind_offset, want_kind, claim_kind, entries_kind}
use Rattle.bg_wire.specs.Entries.EntryText.{action_bytes}
use Rattle.bg_wire.specs.declared.packets.Packet.{Packet}
use Rattle.bg_wire.specs.declared.packets.Packet.TheVariants as packet
use Rattle.bg_wire.specs.declared.faults.WireFault.{WireFault}
use Rattle.bg_wire.specs.declared.faults.WireFault.TheVariants as fault
use Rattle.bg_wire.specs.declared.entries.reader.ReadFault.TheVariants as read_fault
use Rattle.bg_wire.specs.Packets.PacketText.{IsText, header_text, list_text, packet_text, body_fields, packet_fields, packet_width}
use Rattle.bg_wire.specs.Packets.PacketReading.{packet_at, wire_fault}
use Rattle.bg_wire.specs.Faults.{IsWireFault}
use Rattle.bg_wire.specs.FaultLaws.{HaveOneWireFault, PacketsHaveNoFault}
use Rattle.bg_wire.proofs.Laws.{prefix_free}
use Rattle.bg_wire.proofs.OfPackets.PacketLaws.{packet_law}
use Rattle.bg_wire.proofs.Widths.{HasAll, fits_of, inside_of}
use Rattle.bg_wire.proofs.OneFault.{Sorted, same_fault, no_fault}

inside : (before mid : List ℕ) → 0 < length mid → length mid < packet_width before → packet_width (before ++ mid) ≡ 0
inside before mid some lt = inside_of packet_fields before mid some lt

has_header : (kind id : ℕ) (rules : Rules) (rest : List ℕ) → HasAll (body_fields kind) rest
    → HasAll packet_fields (header_text kind id rules ++ rest)
has_header kind id rules rest h = (
  omega arith,
  omega arith,
  (omega arith, omega arith, (omega arith, omega arith, (omega arith, omega arith, (omega arith, omega arith, h)))),
)

-- a packet's text has all of the first fields
has_fields : (p : Packet) → HasAll packet_fields (packet_text p)
has_fields (packet.Want id rules sender held) =
    has_header want_kind id rules (sender ∷ to_be_bytes w32 held)
    (omega arith, omega arith, (omega arith, omega arith, tt))
has_fields (packet.Claim id rules sender number a) =
    has_header claim_kind id rules (sender ∷ (to_be_bytes w32 number ++ action_bytes a))
    (omega arith, omega arith, (omega arith, omega arith, tt))
has_fields (packet.Entries id rules start list) =
    has_header entries_kind id rules (to_be_bytes w32 start ++ list_text list) (omega arith, omega arith, tt)

whole : (p : Packet) (before rest : List ℕ) → IsText p (before ++ rest) → 0 < length rest
    → packet_width before ≤ length rest
whole p before rest h some =
    fits_of packet_fields before rest (subst (HasAll packet_fields) (sym h.spelled) (has_fields p)) some

not_same : (a b : ℕ) → a ≢ b → (a == b) ≡ false
not_same a b h = grind (arith, nat_tests)

abbrev field : ℕ → WireFault
field n = wire_fault (read_fault.Field n)

abbrev OfPacket : WireFault → List ℕ → Type 0
OfPacket = Sorted IsText packet_width (prefix_free packet_at packet_law) inside whole fault.Short fault.Extra field

sorted : (f : WireFault) (bytes : List ℕ) → IsWireFault f bytes → OfPacket f bytes
sorted fault.Short bytes h = inl (h, refl)
sorted fault.Magic bytes h = inr (inl (magic_offset, h, refl))
sorted fault.Version bytes h = inr (inl (version_offset, h, refl))
sorted fault.Kind bytes h = inr (inl (kind_offset, h, refl))
sorted (fault.Field at) bytes h =
    inr (inl (
      at,
      h.3,
      rw (not_same at magic_offset h.0, not_same at version_offset h.1, not_same at kind_offset h.2)
          refl,
    ))
sorted fault.Extra bytes h = inr (inr (h, refl))

pub one_wire_fault : HaveOneWireFault
one_wire_fault bytes f g h k =
    same_fault IsText packet_width (prefix_free packet_at packet_law) inside whole fault.Short fault.Extra field bytes
    f g (sorted f bytes h) (sorted g bytes k)

pub packets_have_no_fault : PacketsHaveNoFault
packets_have_no_fault p bytes f h k =
    no_fault IsText packet_width (prefix_free packet_at packet_law) inside whole fault.Short fault.Extra field p bytes
    f h (sorted f bytes k)
