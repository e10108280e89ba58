-- The law of packets, and what follows from it.
use Rattle.std.proofs.Common.{◌≡◌, ◌≢◌, ℕ, zero, suc, ◌^◌, ◌<◌, ◌≤◌, Bool, true, false, cond, List, [], ◌∷◌, ◌++◌, length, Err, refl, ap, subst, ◌∙◌, arith}
use Rattle.std.specs.Prelude.{◌==◌}
use Rattle.std.specs.Int.{w16, w32, w64, to_be_bytes}
use Rattle.std.proofs.lemmas.Bool.{eqb-true, eqb-false}
use Rattle.bg_match.specs.declared.limits.Rules.{Rules}
use Rattle.bg_match.specs.declared.limits.Rules.TheVariants as rules
use Rattle.bg_match.specs.Limits.{most_entries}
use Rattle.bg_wire.specs.Entries.Codes.{packet_magic, packet_version, want_kind, claim_kind, entries_kind, magic_offset, version_offset, kind_offset, rules_code, seat_of_x}
use Rattle.bg_wire.specs.declared.faults.WireFault.TheVariants as fault
use Rattle.bg_wire.specs.declared.entries.reader.ReadFault.{ReadFault}
use Rattle.bg_wire.specs.declared.entries.reader.ReadFault.TheVariants as read_fault
use Rattle.bg_wire.specs.declared.packets.Packet.{Packet}
use Rattle.bg_wire.specs.declared.packets.Packet.TheVariants as packet
use Rattle.bg_wire.specs.Entries.EntryText.{action_bytes}
use Rattle.bg_wire.specs.Packets.PacketText.{header_text, list_text, packet_text, IsText, body_fields, packet_fields, packet_width}
use Rattle.bg_wire.specs.Texts.{IsWrongAt}
use Rattle.bg_wire.specs.Entries.Fields.{Fields, Field, first_byte}
use Rattle.bg_wire.specs.Faults.{IsWireFault}
use Rattle.bg_wire.specs.Entries.Reading.{◌>>=◌, Cursor, Read, u8_at, u16_at, u64_at}
use Rattle.bg_wire.specs.Entries.RulesReading.{rules_at}
use Rattle.bg_wire.specs.Packets.PacketReading.{wire_fault, body_at, behind_kind_at, packet_at}
use Rattle.bg_wire.proofs.Laws.{IsBytes, from_front, is_wrong_at, is_cut, Law, Then, HasText, has_then, other_text, join}
use Rattle.bg_wire.proofs.Widths.{Of, then_field}
use Rattle.bg_wire.proofs.Fields.{Byte, Number, Word, has_byte, has_word, one_byte, u16_law, u64_law}
use Rattle.bg_wire.proofs.RulesLaws.{RulesByte, rules_byte_law, rules_byte_len, has_rules_byte}
use Rattle.bg_wire.proofs.OfPackets.PacketBodies.{fits_room, room_fits, WantParts, byte_len, number_len, word_len, ClaimParts, EntriesParts, Body, body_law, has_body}

-- ---- the header

abbrev RulesParts : ℕ → ℕ → Packet → List ℕ → Type 0
RulesParts kind id = Then RulesByte (Body kind id)

abbrev IdParts : ℕ → Packet → List ℕ → Type 0
IdParts kind = Then Word (RulesParts kind)

abbrev VersionParts : Packet → List ℕ → Type 0
VersionParts = Then (Byte packet_version packet_version) (λ v. Then (Byte want_kind entries_kind) IdParts)

abbrev PacketParts : Packet → List ℕ → Type 0
PacketParts = Then (Number packet_magic packet_magic) (λ m. VersionParts)

has_rules : (kind id : ℕ) → HasText (RulesParts kind id)
has_rules kind id = has_then has_rules_byte (λ which first h. has_body kind id which)

has_id : (kind : ℕ) → HasText (IdParts kind)
has_id kind = has_then has_word (λ id first h. has_rules kind id)

has_kind : HasText (Then (Byte want_kind entries_kind) IdParts)
has_kind = has_then (has_byte want_kind entries_kind (omega arith)) (λ kind first h. has_id kind)

has_version : HasText VersionParts
has_version = has_then (has_byte packet_version packet_version (omega arith)) (λ v first h. has_kind)

-- the fields from the rules on
abbrev rules_fields : ℕ → Fields
rules_fields kind = Field 1 (λ which. body_fields kind)

-- and from the match id on
abbrev id_fields : ℕ → Fields
id_fields kind = Field 8 (λ id. rules_fields kind)

abbrev from_kind : Cursor → Read Packet
from_kind c = u8_at want_kind entries_kind c >>= λ kind. behind_kind_at kind.0 kind.1

abbrev from_version : Cursor → Read Packet
from_version c = u8_at packet_version packet_version c >>= λ version. from_kind version.1

abbrev from_rules : ℕ → ℕ → Cursor → Read Packet
from_rules kind id c = rules_at c >>= λ which. body_at kind id which.0 which.1

rules_law : (kind id : ℕ) → Law (Of (rules_fields kind)) (from_rules kind id) (RulesParts kind id)
rules_law kind id =
    then_field 1 _ (λ which. body_fields kind) rules_at (body_at kind id) (omega arith)
    rules_byte_law rules_byte_len (λ which first h. refl) (body_law kind id) (λ which first h. has_body kind id which)

id_law : (kind : ℕ) → Law (Of (id_fields kind)) (behind_kind_at kind) (IdParts kind)
unfolding behind_kind_at
id_law kind =
    then_field 8 _ (λ id. rules_fields kind) u64_at (from_rules kind) (omega arith) u64_law word_len
    (λ id first h. refl) (rules_law kind) (λ id first h. has_rules kind id)

kind_is : (kind : ℕ) (first : List ℕ) → Byte want_kind entries_kind kind first
    → id_fields (first_byte first) ≡ id_fields kind
kind_is kind first h = ap (λ (f : List ℕ). id_fields (first_byte f)) h.2

-- ---- the parts are the text

module _ (id : ℕ) (which : Rules) (p : Packet) (rest front : List ℕ) (id_fits : id < 2 ^ 64) where
  want_text : front ≡ header_text want_kind id which ++ rest → WantParts id which p rest → IsText p front
  want_text whole h =
      let text : rest ≡ h.0 ∷ to_be_bytes w32 h.4.0 = h.5 ∙ ap (λ (r : List ℕ). r ++ h.2) h.3.2
      ∙ ap (λ (r : List ℕ). h.0 ∷ r) h.4.1.3 in
      subst (λ (q : Packet). IsText q front) h.4.2 (record {
        in_range = record { id_fits = id_fits; first_party = h.3.0; last_party = h.3.1; held_at_most = h.4.1.1 };
        spelled = whole ∙ ap (λ (r : List ℕ). header_text want_kind id which ++ r) text;
      })

  claim_text : front ≡ header_text claim_kind id which ++ rest → ClaimParts id which p rest → IsText p front
  claim_text whole h =
      let n = h.4 in
      let last : n.2 ≡ action_bytes n.4.0 = n.4.1.1 in
      let text : rest ≡ h.0 ∷ (to_be_bytes w32 n.0 ++ action_bytes n.4.0) =
      h.5 ∙ ap (λ (r : List ℕ). r ++ h.2) h.3.2
      ∙ ap (λ (r : List ℕ). h.0 ∷ r)
      (n.5 ∙ ap (λ (r : List ℕ). r ++ n.2) n.3.3 ∙ ap (λ (r : List ℕ). to_be_bytes w32 n.0 ++ r) last) in
      subst (λ (q : Packet). IsText q front) n.4.2 (record {
        in_range = record {
          id_fits = id_fits;
          first_seat = h.3.0;
          last_seat = h.3.1;
          first_entry =
              n.3.0;
          last_entry = n.3.1;
          action_in_range = n.4.1.0;
        };
        spelled = whole ∙ ap (λ (r : List ℕ). header_text claim_kind id which ++ r) text;
      })

  entries_bytes : front ≡ header_text entries_kind id which ++ rest → EntriesParts id which p rest → IsText p front
  entries_bytes whole h =
      let list = h.4.0 in
      let counted = h.4.1.0 in
      let text : rest ≡ to_be_bytes w32 h.0 ++ list_text list =
      h.5 ∙ ap (λ (r : List ℕ). r ++ h.2) h.3.3 ∙ ap (λ (r : List ℕ). to_be_bytes w32 h.0 ++ r) h.4.1.1 in
      let fits = room_fits h.0 (length list) h.3.1 counted.1 in
      subst (λ (q : Packet). IsText q front) h.4.2 (record {
        in_range = record {
          id_fits = id_fits;
          first_entry = h.3.0;
          some = counted.0;
          few = fits.0;
          last_entry =
              fits.1;
          in_range = counted.2;
        };
        spelled = whole ∙ ap (λ (r : List ℕ). header_text entries_kind id which ++ r) text;
      })

body_text : (kind id : ℕ) (which : Rules) (p : Packet) (rest front : List ℕ) → id < 2 ^ 64 → want_kind ≤ kind
    → kind ≤ entries_kind → front ≡ header_text kind id which ++ rest → Body kind id which p rest → IsText p front
body_text zero id which p rest front fits low high whole h = absurd (omega arith)
body_text (suc zero) id which p rest front fits low high whole h = want_text id which p rest front fits whole h
body_text (suc (suc zero)) id which p rest front fits low high whole h = claim_text id which p rest front fits whole h
body_text (suc (suc (suc zero))) id which p rest front fits low high whole h =
    entries_bytes id which p rest front fits whole h
body_text (suc (suc (suc (suc kind)))) id which p rest front fits low high whole h = absurd (omega arith)

one_number : (n number : ℕ) (front : List ℕ) → Number n n number front → front ≡ to_be_bytes w16 n
one_number n number front h = h.3 ∙ ap (to_be_bytes w16) (omega (arith, h.0, h.1))

one_of : (n byte : ℕ) (front : List ℕ) → Byte n n byte front → front ≡ n ∷ []
one_of n byte front h = h.2 ∙ ap (λ (b : ℕ). b ∷ []) (omega (arith, h.0, h.1))

parts_text : (p : Packet) (front : List ℕ) → PacketParts p front → IsText p front
parts_text p front h =
    let v = h.4 in let k = v.4 in let w = k.4 in let r = w.4 in
    let magic = one_number packet_magic h.0 h.1 h.3 in
    let version = one_of packet_version v.0 v.1 v.3 in
    let whole : front ≡ header_text k.0 w.0 r.0 ++ r.2 =
    join h.5 magic (join v.5 version (join k.5 k.3.2 (join w.5 w.3.1 (join r.5 r.3 refl)))) in
    body_text k.0 w.0 r.0 p r.2 front w.3.0 k.3.0 k.3.1 whole r.4

-- the parts of a header, before a body
header_parts : (kind id : ℕ) (which : Rules) (p : Packet) (rest front : List ℕ) → want_kind ≤ kind
    → kind ≤ entries_kind → id < 2 ^ 64 → front ≡ header_text kind id which ++ rest → Body kind id which p rest
    → PacketParts p front
header_parts kind id which p rest front low high fits whole body =
    let from_rules_text = rules_code which ∷ rest in
    let from_id_text = to_be_bytes w64 id ++ from_rules_text in
    let ruled : RulesParts kind id p from_rules_text =
    (which, rules_code which ∷ [], rest, refl, body, refl) in (
      packet_magic,
      to_be_bytes w16 packet_magic,
      packet_version ∷ kind ∷ from_id_text,
      (omega arith, omega arith, omega arith, refl),
      (
        packet_version,
        packet_version ∷ [],
        kind ∷ from_id_text,
        (omega arith, omega arith, refl),
        (
          kind,
          kind ∷ [],
          from_id_text,
          (low, high, refl),
          (id, to_be_bytes w64 id, from_rules_text, (fits, refl), ruled, refl),
          refl,
        ),
        refl,
      ),
      whole,
    )

text_parts : (p : Packet) (front : List ℕ) → IsText p front → PacketParts p front
text_parts (packet.Want id which sender held) front h =
    let r = h.in_range in
    header_parts want_kind id which _ (sender ∷ to_be_bytes w32 held) front (omega arith) (omega arith) r.id_fits
    h.spelled (
      sender,
      sender ∷ [],
      to_be_bytes w32 held,
      (r.first_party, r.last_party, refl),
      (held, (omega arith, r.held_at_most, omega (arith, r.held_at_most), refl), refl),
      refl,
    )
text_parts (packet.Claim id which sender number action) front h =
    let r = h.in_range in
    header_parts claim_kind id which _ (sender ∷ (to_be_bytes w32 number ++ action_bytes action)) front (omega arith)
    (omega arith) r.id_fits h.spelled (
      sender,
      sender ∷ [],
      to_be_bytes w32 number ++ action_bytes action,
      (r.first_seat, r.last_seat, refl),
      (
        number,
        to_be_bytes w32 number,
        action_bytes action,
        (r.first_entry, r.last_entry, omega (arith, r.last_entry), refl),
        (action, (r.action_in_range, refl), refl),
        refl,
      ),
      refl,
    )
text_parts (packet.Entries id which start list) front h =
    let r = h.in_range in
    let last : start ≤ most_entries = omega (arith, r.last_entry, r.some) in
    header_parts entries_kind id which _ (to_be_bytes w32 start ++ list_text list) front (omega arith) (omega arith)
    r.id_fits h.spelled (
      start,
      to_be_bytes w32 start,
      list_text list,
      (r.first_entry, last, omega (arith, last), refl),
      (list, ((r.some, fits_room start (length list) r.few r.last_entry, r.in_range), refl), refl),
      refl,
    )

-- the fields from the version on
abbrev version_fields : Fields
version_fields = Field 1 (λ version. Field 1 (λ kind. id_fields (first_byte kind)))

version_law : Law (Of version_fields) from_version VersionParts
version_law =
    then_field 1 _ (λ v. Field 1 (λ kind. id_fields (first_byte kind))) (u8_at packet_version packet_version)
    (λ v. from_kind) (omega arith) (one_byte packet_version packet_version) (byte_len packet_version packet_version)
    (λ v first h. refl)
    (λ v. then_field 1 _ id_fields (u8_at want_kind entries_kind) behind_kind_at (omega arith)
    (one_byte want_kind entries_kind) (byte_len want_kind entries_kind) kind_is id_law (λ kind first h. has_id kind))
    (λ v first h. has_kind)

pub packet_law : Law (Of packet_fields) packet_at IsText
unfolding packet_at
packet_law =
    other_text _ parts_text text_parts
    (then_field 2 _ (λ m. version_fields) (u16_at packet_magic packet_magic) (λ m. from_version) (omega arith)
    (u16_law packet_magic packet_magic) (number_len packet_magic packet_magic) (λ m first h. refl)
    (λ m. version_law) (λ m first h. has_version))

pub not_extra : (f : ReadFault) → wire_fault f ≢ fault.Extra
not_extra read_fault.Short e = absurd cc
not_extra (read_fault.Field at) e = named (at == magic_offset) (at == version_offset) (at == kind_offset) e
  where
    named : (a b c : Bool)
        → cond a fault.Magic (cond b fault.Version (cond c fault.Kind (fault.Field at))) ≢ fault.Extra
    named true b c e = absurd cc
    named false true c e = absurd cc
    named false false true e = absurd cc
    named false false false e = absurd cc

has_packet : HasText IsText
has_packet =
    let p = packet.Want 0 rules.One seat_of_x 0 in (
      p,
      packet_text p,
      record {
        in_range = record {
          id_fits = omega arith;
          first_party = omega arith;
          last_party = omega arith;
          held_at_most =
              omega arith;
        };
        spelled = refl;
      },
    )

-- what the fault of a field says
pub says_field : (bytes : List ℕ) → IsBytes bytes → (f : ReadFault) → packet_at (from_front bytes) ≡ Err f
    → IsWireFault (wire_fault f) bytes
says_field bytes fits read_fault.Short e =
    is_cut packet_at packet_law packet_width (λ before w h. h) bytes has_packet fits e
says_field bytes fits (read_fault.Field at) e =
    named (at == magic_offset) refl (at == version_offset) refl (at == kind_offset) refl
  where
    wrong : IsWrongAt IsText packet_width bytes at
    wrong = is_wrong_at packet_at packet_law packet_width (λ before w h. h) bytes at has_packet fits e

    named : (a : Bool) → (at == magic_offset) ≡ a → (b : Bool) → (at == version_offset) ≡ b → (c : Bool)
        → (at == kind_offset) ≡ c
        → IsWireFault (cond a fault.Magic (cond b fault.Version (cond c fault.Kind (fault.Field at)))) bytes
    named true is b _ c _ = subst (IsWrongAt IsText packet_width bytes) (eqb-true _ _ is) wrong
    named false _ true is c _ = subst (IsWrongAt IsText packet_width bytes) (eqb-true _ _ is) wrong
    named false _ false _ true is = subst (IsWrongAt IsText packet_width bytes) (eqb-true _ _ is) wrong
    named false no_magic false no_version false no_kind =
        (eqb-false _ _ no_magic, eqb-false _ _ no_version, eqb-false _ _ no_kind, wrong)
