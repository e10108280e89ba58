-- The laws of what follows the header of a packet.
use Rattle.std.proofs.Common.{◌≡◌, ℕ, ◌+◌, ◌-◌, ◌≤◌, List, [], ◌∷◌, length, refl, ap, arith, inl, inr}
use Rattle.std.specs.Prelude.{◌==◌}
use Rattle.std.proofs.lemmas.Bool.{cases_lt, lt-ltb, le-ltb}
use Rattle.bg_match.specs.Entry.{IsEntry, IsAction}
use Rattle.bg_match.specs.declared.entries.Entry.{Entry}
use Rattle.bg_match.specs.declared.limits.Rules.{Rules}
use Rattle.bg_match.specs.Limits.{most_entries}
use Rattle.bg_wire.specs.Entries.Codes.{most_in_packet, want_kind, claim_kind, first_number, seat_of_x, seat_of_o, last_watcher}
use Rattle.bg_wire.specs.declared.saves.layouts.Layout.TheVariants.{Two}
use Rattle.bg_wire.specs.declared.packets.Packet.{Packet}
use Rattle.bg_wire.specs.declared.packets.Packet.TheVariants as packet
use Rattle.bg_wire.specs.Entries.EntryText.{action_bytes, entry_bytes}
use Rattle.bg_wire.specs.Packets.PacketText.{list_text, body_fields}
use Rattle.bg_wire.specs.Entries.Fields.{Done, Field}
use Rattle.bg_wire.specs.Entries.Reading.{◌>>=◌, u8_at, u32_at, with}
use Rattle.bg_wire.specs.Entries.EntryReading.{action_at, entry_at}
use Rattle.bg_wire.specs.Packets.PacketReading.{want_at, claim_at, most_from, list_at, entries_at, body_at}
use Rattle.bg_wire.proofs.Laws.{Law, Then, Mapped, Choice, HasText, OneByte, has_then, has_mapped, has_choice, with_law}
use Rattle.bg_wire.proofs.Widths.{Of, then_field, last_field, byte_fields, choice_of}
use Rattle.bg_wire.proofs.Fields.{Byte, Number, Long, Word, has_byte, has_long, one_byte, u32_law}
use Rattle.bg_wire.proofs.EntryLaws.{Spells, IsCounted, has_action, counted_law, action_law}
use Rattle.bg_wire.proofs.ToldEntries.{has_packet_entry, packet_entry_law}

-- ---- how many entries a packet tells

pub fits_room : (start n : ℕ) → n ≤ most_in_packet → start + n ≤ most_entries + 1 → n ≤ most_from start
fits_room start n le fits = elim (cases_lt (most_entries + 1 - start) most_in_packet) [
  | inl few ↦ let is : most_from start ≡ most_entries + 1 - start = rw (lt-ltb _ _ few) refl in omega arith
  | inr many ↦ let is : most_from start ≡ most_in_packet = rw (le-ltb _ _ many) refl in omega arith
]

pub room_fits : (start n : ℕ) → start ≤ most_entries → n ≤ most_from start
    → (n ≤ most_in_packet) × (start + n ≤ most_entries + 1)
room_fits start n fits le = elim (cases_lt (most_entries + 1 - start) most_in_packet) [
  | inl few ↦ let is : most_from start ≡ most_entries + 1 - start = rw (lt-ltb _ _ few) refl in
      (omega arith, omega arith)
  | inr many ↦ let is : most_from start ≡ most_in_packet = rw (le-ltb _ _ many) refl in (omega arith, omega arith)
]

-- ---- what follows the header

abbrev pub WantParts : ℕ → Rules → Packet → List ℕ → Type 0
WantParts id rules = Then (Byte seat_of_x last_watcher) (λ s. Mapped (packet.Want id rules s) (Long 0 most_entries))

has_held : (id : ℕ) (rules : Rules) (s : ℕ) → HasText (Mapped (packet.Want id rules s) (Long 0 most_entries))
has_held id rules s = has_mapped (packet.Want id rules s) (has_long 0 most_entries (omega arith) (omega arith))

has_want : (id : ℕ) (rules : Rules) → HasText (WantParts id rules)
has_want id rules = has_then (has_byte seat_of_x last_watcher (omega arith)) (λ s first h. has_held id rules s)

pub byte_len : (low high x : ℕ) (front : List ℕ) → Byte low high x front → length front ≡ 1
byte_len low high x front h = ap length h.2

pub number_len : (low high n : ℕ) (front : List ℕ) → Number low high n front → length front ≡ 2
number_len low high n front h = ap length h.3

long_len : (low high n : ℕ) (front : List ℕ) → Long low high n front → length front ≡ 4
long_len low high n front h = ap length h.3

pub word_len : (n : ℕ) (front : List ℕ) → Word n front → length front ≡ 8
word_len n front h = ap length h.1

want_law : (id : ℕ) (rules : Rules)
    → Law (Of (Field 1 (λ sender. Field 4 (λ held. Done)))) (want_at id rules) (WantParts id rules)
unfolding want_at
want_law id rules =
    then_field 1 _ (λ s. Field 4 (λ held. Done)) (u8_at seat_of_x last_watcher)
    (λ s c. with (packet.Want id rules s) (u32_at 0 most_entries c)) (omega arith)
    (one_byte seat_of_x last_watcher) (byte_len seat_of_x last_watcher) (λ s first h. refl)
    (λ s. with_law (packet.Want id rules s) (u32_at 0 most_entries)
    (last_field 4 (λ held. Done) (u32_at 0 most_entries) (u32_law 0 most_entries))) (λ s first h. has_held id rules s)

abbrev pub ClaimParts : ℕ → Rules → Packet → List ℕ → Type 0
ClaimParts id rules = Then (Byte seat_of_x seat_of_o)
    (λ s. Then (Long first_number most_entries)
    (λ n. Mapped (packet.Claim id rules s n) (Spells IsAction action_bytes)))

has_claimed : (id : ℕ) (rules : Rules) (s n : ℕ)
    → HasText (Mapped (packet.Claim id rules s n) (Spells IsAction action_bytes))
has_claimed id rules s n = has_mapped (packet.Claim id rules s n) has_action

has_claim_of : (id : ℕ) (rules : Rules) (s : ℕ)
    → HasText (Then (Long first_number most_entries)
    (λ n. Mapped (packet.Claim id rules s n) (Spells IsAction action_bytes)))
has_claim_of id rules s = has_then (has_long first_number most_entries (omega arith) (omega arith))
    (λ n first h. has_claimed id rules s n)

has_claim : (id : ℕ) (rules : Rules) → HasText (ClaimParts id rules)
has_claim id rules = has_then (has_byte seat_of_x seat_of_o (omega arith)) (λ s first h. has_claim_of id rules s)

claim_law : (id : ℕ) (rules : Rules)
    → Law (Of (Field 1 (λ sender. Field 4 (λ number. Done)))) (claim_at id rules) (ClaimParts id rules)
unfolding claim_at
claim_law id rules =
    then_field 1 _ (λ s. Field 4 (λ number. Done)) (u8_at seat_of_x seat_of_o)
    (λ s c. u32_at first_number most_entries c >>= λ n. with (packet.Claim id rules s n.0) (action_at n.1))
    (omega arith)
    (one_byte seat_of_x seat_of_o) (byte_len seat_of_x seat_of_o) (λ s first h. refl)
    (λ s. then_field 4 _ (λ n. Done) (u32_at first_number most_entries)
    (λ n c. with (packet.Claim id rules s n) (action_at c)) (omega arith)
    (u32_law first_number most_entries) (long_len first_number most_entries) (λ n first h. refl)
    (λ n. with_law (packet.Claim id rules s n) action_at (byte_fields action_at action_law))
    (λ n first h. has_claimed id rules s n))
    (λ s first h. has_claim_of id rules s)

abbrev ListText : ℕ → List Entry → List ℕ → Type 0
ListText start = Spells (IsCounted 1 (most_from start) IsEntry) list_text

has_list : (start : ℕ) → start ≤ most_entries → HasText (ListText start)
has_list start le =
    let one : List Entry = has_packet_entry.0 ∷ [] in
    let fits = fits_room start 1 (omega arith) (omega arith) in
    (one, list_text one, ((omega arith, fits, (has_packet_entry.2.0, tt)), refl))

list_law : (start : ℕ) → Law OneByte (list_at start) (ListText start)
unfolding list_at
list_law start = counted_law 1 (most_from start) IsEntry entry_bytes (entry_at Two) packet_entry_law has_packet_entry

abbrev pub EntriesParts : ℕ → Rules → Packet → List ℕ → Type 0
EntriesParts id rules =
    Then (Long first_number most_entries) (λ start. Mapped (packet.Entries id rules start) (ListText start))

has_told : (id : ℕ) (rules : Rules) (start : ℕ) → start ≤ most_entries
    → HasText (Mapped (packet.Entries id rules start) (ListText start))
has_told id rules start le = has_mapped (packet.Entries id rules start) (has_list start le)

has_entries : (id : ℕ) (rules : Rules) → HasText (EntriesParts id rules)
has_entries id rules = has_then (has_long first_number most_entries (omega arith) (omega arith))
    (λ start first h. has_told id rules start h.1)

entries_law : (id : ℕ) (rules : Rules)
    → Law (Of (Field 4 (λ start. Done))) (entries_at id rules) (EntriesParts id rules)
unfolding entries_at
entries_law id rules =
    then_field 4 _ (λ start. Done) (u32_at first_number most_entries)
    (λ start c. with (packet.Entries id rules start) (list_at start c)) (omega arith)
    (u32_law first_number most_entries) (long_len first_number most_entries) (λ start first h. refl)
    (λ start. with_law (packet.Entries id rules start) (list_at start) (byte_fields (list_at start) (list_law start)))
    (λ start first h. has_told id rules start h.1)

abbrev pub Body : ℕ → ℕ → Rules → Packet → List ℕ → Type 0
Body kind id rules =
    Choice (kind == want_kind) (WantParts id rules)
    (Choice (kind == claim_kind) (ClaimParts id rules) (EntriesParts id rules))

pub body_law : (kind id : ℕ) (rules : Rules) → Law (Of (body_fields kind)) (body_at kind id rules) (Body kind id rules)
unfolding body_at
body_law kind id rules =
    choice_of (kind == want_kind) _ _ (want_at id rules) _ (want_law id rules)
    (choice_of (kind == claim_kind) _ _ (claim_at id rules) (entries_at id rules) (claim_law id rules)
    (entries_law id rules))

pub has_body : (kind id : ℕ) (rules : Rules) → HasText (Body kind id rules)
has_body kind id rules = has_choice (kind == want_kind) (has_want id rules)
    (has_choice (kind == claim_kind) (has_claim id rules) (has_entries id rules))
