-- Reading packets, as the code does it: words of private contracts, of which no public clause
-- speaks.
use Rattle.std.specs.Prelude.{◌==◌, ℕ, ◌+◌, ◌-◌, List, Result, Ok, nat_lt, if◌then◌else◌}
use Rattle.bg_match.specs.declared.entries.Entry.{Entry}
use Rattle.bg_match.specs.declared.limits.Rules.{Rules}
use Rattle.bg_match.specs.Limits.{most_entries}
use Rattle.bg_wire.specs.Entries.Codes.{most_in_packet, packet_magic, packet_version, want_kind, claim_kind, entries_kind, magic_offset, version_offset, kind_offset, first_number, seat_of_x, seat_of_o, last_watcher}
use Rattle.bg_wire.specs.Entries.Reading.{◌>>=◌, Cursor, Read, u8_at, u16_at, u32_at, u64_at, many_at, whole_of}
use Rattle.bg_wire.specs.Entries.EntryReading.{action_at, entry_at}
use Rattle.bg_wire.specs.Entries.RulesReading.{rules_at}
use Rattle.bg_wire.specs.declared.saves.layouts.Layout.TheVariants.{Two}
use Rattle.bg_wire.specs.declared.faults.WireFault.{WireFault}
use Rattle.bg_wire.specs.declared.faults.WireFault.TheVariants as fault
use Rattle.bg_wire.specs.declared.entries.reader.ReadFault.{ReadFault}
use Rattle.bg_wire.specs.declared.entries.reader.ReadFault.TheVariants as read_fault
use Rattle.bg_wire.specs.declared.packets.Packet.{Packet}
use Rattle.bg_wire.specs.declared.packets.Packet.TheVariants as packet

-- three fields have faults of their own
abbrev pub wire_fault : ReadFault → WireFault
wire_fault read_fault.Short = fault.Short
wire_fault (read_fault.Field at) =
    if at == magic_offset then fault.Magic
    else if at == version_offset then fault.Version
    else if at == kind_offset then fault.Kind
    else fault.Field at

unfoldable pub want_at : ℕ → Rules → Cursor → Read Packet
want_at id rules c = do
  sender ← u8_at seat_of_x last_watcher c
  held ← u32_at 0 most_entries sender.1
  Ok (packet.Want id rules sender.0 held.0, held.1)

unfoldable pub claim_at : ℕ → Rules → Cursor → Read Packet
claim_at id rules c = do
  sender ← u8_at seat_of_x seat_of_o c
  number ← u32_at first_number most_entries sender.1
  action ← action_at number.1
  Ok (packet.Claim id rules sender.0 number.0 action.0, action.1)

-- how many entries one packet tells at most, from this number on
abbrev pub most_from : ℕ → ℕ
most_from start =
    if nat_lt (most_entries + 1 - start) most_in_packet then most_entries + 1 - start else most_in_packet

unfoldable pub list_at : ℕ → Cursor → Read (List Entry)
list_at start c = do
  count ← u8_at 1 (most_from start) c
  many_at (entry_at Two) count.0 count.1

unfoldable pub entries_at : ℕ → Rules → Cursor → Read Packet
entries_at id rules c = do
  start ← u32_at first_number most_entries c
  list ← list_at start.0 start.1
  Ok (packet.Entries id rules start.0 list.0, list.1)

-- what follows the header
unfoldable pub body_at : ℕ → ℕ → Rules → Cursor → Read Packet
body_at kind id rules c =
    if kind == want_kind then want_at id rules c
    else if kind == claim_kind then claim_at id rules c
    else entries_at id rules c

-- what follows the kind
unfoldable pub behind_kind_at : ℕ → Cursor → Read Packet
behind_kind_at kind c = do
  id ← u64_at c
  rules ← rules_at id.1
  body_at kind id.0 rules.0 rules.1

unfoldable pub packet_at : Cursor → Read Packet
packet_at c = do
  magic ← u16_at packet_magic packet_magic c
  version ← u8_at packet_version packet_version magic.1
  kind ← u8_at want_kind entries_kind version.1
  behind_kind_at kind.0 kind.1

-- all of the bytes
unfoldable pub packet_of : List ℕ → Result Packet WireFault
packet_of bytes = whole_of wire_fault fault.Extra (packet_at (record { at = 0; rest = bytes }))
