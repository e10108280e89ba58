-- What is read of packets.
use Rattle.std.specs.Prelude.{◌≡◌, ℕ, List, length, replicate, Result, Ok, Err}
use Rattle.bg_wire.specs.Entries.Codes.{claim_kind, entries_kind, referee, rules_code, want_kind}
use Rattle.bg_wire.specs.Packets.PacketText.{IsText}
use Rattle.bg_wire.specs.declared.packets.Packet.{Packet}
use Rattle.bg_wire.specs.declared.packets.Packet.TheVariants as packet
use Rattle.bg_c.specs.declared.packets.PacketFields.{PacketFields}
use Rattle.bg_c.specs.declared.statuses.Status.{Status}
use Rattle.bg_c.specs.declared.statuses.Status.TheVariants.{NotAPacket}

-- the party that a packet says it is from: entries are from the referee
abbrev pub sender_of : Packet → ℕ
sender_of (packet.Want id rules sender held) = sender
sender_of (packet.Claim id rules sender number action) = sender
sender_of (packet.Entries id rules start list) = referee

abbrev pub packet_fields : Packet → PacketFields
packet_fields (packet.Want id rules sender held) = record {
  id = id;
  rules = rules_code rules;
  kind = want_kind;
  sender = sender;
  number = held;
  count = 0;
  reserved = replicate 3 0;
}
packet_fields (packet.Claim id rules sender number action) = record {
  id = id;
  rules = rules_code rules;
  kind = claim_kind;
  sender = sender;
  number = number;
  count = 0;
  reserved = replicate 3 0;
}
packet_fields (packet.Entries id rules start list) = record {
  id = id;
  rules = rules_code rules;
  kind = entries_kind;
  sender = 0;
  number = start;
  count = length list;
  reserved = replicate 3 0;
}

-- what is read of bytes: the fields of the packet whose text they are
pub record ReadsPacket (bytes : List ℕ) (made : Result PacketFields Status) : Type 0 where
  pub packet : (p : Packet) → IsText p bytes → made ≡ Ok (packet_fields p)
  pub none : ((p : Packet) → IsText p bytes → ⊥) → made ≡ Err NotAPacket
