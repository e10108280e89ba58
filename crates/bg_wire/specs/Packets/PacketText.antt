-- The one text of each packet.
use Rattle.std.specs.Prelude.{◌≡◌, ◌&&◌, ℕ, Bool, ◌+◌, ◌<◌, ◌≤◌, ◌^◌, List, [], ◌∷◌, ◌++◌, length, Some, slice_get, ◌==◌, if◌then◌else◌}
use Rattle.std.specs.List.{AllByRecursion}
use Rattle.std.specs.Int.{w16, w32, w64, to_be_bytes}
use Rattle.bg_match.specs.Entry.{IsEntry, IsAction}
use Rattle.bg_match.specs.declared.actions.Action.{Action}
use Rattle.bg_match.specs.declared.entries.Entry.{Entry}
use Rattle.bg_match.specs.declared.limits.Rules.{Rules}
use Rattle.bg_match.specs.Limits.{most_entries}
use Rattle.bg_wire.specs.Entries.Codes.{most_in_packet, packet_magic, packet_version, want_kind, claim_kind, entries_kind, first_number, rules_offset, rules_code, seat_of_x, seat_of_o, last_watcher}
use Rattle.bg_wire.specs.Entries.Fields.{Fields, Done, Field, first_byte, width_of}
use Rattle.bg_wire.specs.Entries.EntryText.{action_bytes, entries_bytes}
use Rattle.bg_wire.specs.declared.packets.Packet.{Packet}
use Rattle.bg_wire.specs.declared.packets.Packet.TheVariants as packet

abbrev pub header_text : ℕ → ℕ → Rules → List ℕ
header_text kind id rules =
    to_be_bytes w16 packet_magic ++ (packet_version ∷ kind ∷ (to_be_bytes w64 id ++ rules_code rules ∷ []))

-- the count of the entries, then each
abbrev pub list_text : List Entry → List ℕ
list_text list = length list ∷ entries_bytes list

abbrev pub packet_text : Packet → List ℕ
packet_text (packet.Want id rules sender held) =
    header_text want_kind id rules ++ (sender ∷ to_be_bytes w32 held)
packet_text (packet.Claim id rules sender number action) =
    header_text claim_kind id rules ++ (sender ∷ (to_be_bytes w32 number ++ action_bytes action))
packet_text (packet.Entries id rules start list) =
    header_text entries_kind id rules ++ (to_be_bytes w32 start ++ list_text list)

pub record IsWant (id sender held : ℕ) : Type 0 where
  pub id_fits : id < 2 ^ 64
  pub first_party : seat_of_x ≤ sender
  pub last_party : sender ≤ last_watcher
  pub held_at_most : held ≤ most_entries

pub record IsClaim (id sender number : ℕ) (action : Action) : Type 0 where
  pub id_fits : id < 2 ^ 64
  pub first_seat : seat_of_x ≤ sender
  pub last_seat : sender ≤ seat_of_o
  pub first_entry : first_number ≤ number
  pub last_entry : number ≤ most_entries
  pub action_in_range : IsAction action

-- so many entries from start on, so the last of them has the number start + length - 1
pub record IsEntries (id start : ℕ) (list : List Entry) : Type 0 where
  pub id_fits : id < 2 ^ 64
  pub first_entry : first_number ≤ start
  pub some : 1 ≤ length list
  pub few : length list ≤ most_in_packet
  pub last_entry : start + length list ≤ most_entries + 1
  pub in_range : AllByRecursion IsEntry list

-- the fields of the packet are in their ranges; all rules are
abbrev pub IsPacket : Packet → Type 0
IsPacket (packet.Want id rules sender held) = IsWant id sender held
IsPacket (packet.Claim id rules sender number action) = IsClaim id sender number action
IsPacket (packet.Entries id rules start list) = IsEntries id start list

-- the bytes are the packet's text
pub record IsText (p : Packet) (bytes : List ℕ) : Type 0 where
  pub in_range : IsPacket p
  pub spelled : bytes ≡ packet_text p

-- the fields behind the header, by the kind. Behind them each byte is a field, of an action or of
-- the list of entries
abbrev pub body_fields : ℕ → Fields
body_fields kind =
    if kind == want_kind then Field 1 (λ sender. Field 4 (λ held. Done))
    else if kind == claim_kind then Field 1 (λ sender. Field 4 (λ number. Done))
    else Field 4 (λ start. Done)

abbrev pub packet_fields : Fields
packet_fields =
    Field 2 (λ magic. Field 1 (λ version. Field 1 (λ kind. Field 8 (λ id. Field 1 (λ rules.
    body_fields (first_byte kind))))))

-- the width of the field that begins behind these bytes of a packet
abbrev pub packet_width : List ℕ → ℕ
packet_width before = width_of packet_fields before

-- the match that the packet is of
abbrev pub id_of : Packet → ℕ
id_of (packet.Want id rules sender held) = id
id_of (packet.Claim id rules sender number action) = id
id_of (packet.Entries id rules start list) = id

-- the rules of that match
abbrev pub packet_rules : Packet → Rules
packet_rules (packet.Want id rules sender held) = rules
packet_rules (packet.Claim id rules sender number action) = rules
packet_rules (packet.Entries id rules start list) = rules

-- its text tells them
abbrev pub TextsTellRules : Type 0
TextsTellRules = (p : Packet) (bytes : List ℕ) → IsText p bytes
    → slice_get bytes rules_offset ≡ Some (rules_code (packet_rules p))

-- the packet is of the match with this id and these rules
abbrev pub IsOfMatch : ℕ → Rules → Packet → Type 0
IsOfMatch id rules p = (id_of p ≡ id) × (packet_rules p ≡ rules)

-- the same as a truth value
abbrev pub is_of_match : ℕ → Rules → Packet → Bool
is_of_match id rules p = (id_of p == id) && (rules_code (packet_rules p) == rules_code rules)
