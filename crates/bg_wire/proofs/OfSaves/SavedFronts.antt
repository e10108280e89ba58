-- The law of what stands before the entries of a saved text, field by field, in either layout.
use Rattle.std.proofs.Common.{◌≡◌, ◌⊎◌, ℕ, ◌^◌, ◌<◌, ◌≤◌, List, refl, sym, ap, subst, ◌∙◌, arith, inl, inr}
use Rattle.std.specs.Int.{w32, to_be_bytes, from_be_bytes}
use Rattle.std.proofs.lemmas.Bool.{cases_eq}
use Rattle.std.proofs.lemmas.Nat.{from_be_bytes-to_be_bytes_4}
use Rattle.bg_match.specs.Terms.{terms_of}
use Rattle.bg_match.specs.declared.limits.Rules.{Rules}
use Rattle.bg_match.specs.declared.limits.Rules.TheVariants as rules
use Rattle.bg_match.specs.Limits.{shortest_match, longest_match}
use Rattle.bg_wire.specs.Entries.Codes.{referee, seat_of_o, least_save, greatest_save}
use Rattle.bg_wire.specs.declared.saves.layouts.Front.{Front}
use Rattle.bg_wire.specs.declared.saves.layouts.Layout.{Layout}
use Rattle.bg_wire.specs.declared.saves.layouts.Layout.TheVariants.{One, Two}
use Rattle.bg_wire.specs.Entries.Fields.{Fields, Done, Field, followed_by}
use Rattle.bg_wire.specs.Saved.SavedLayouts.{magic_of, number_width, number_text, rules_text, AreRulesIn, claim_text, claim_fields, rules_fields, save_fields, front_fields, layout_of_magic, saved_fields}
use Rattle.bg_wire.specs.Saved.SavedText.{IsClaimIn}
use Rattle.bg_wire.specs.Entries.Reading.{◌>>=◌, Cursor, Read, u8_at, u32_at, u64_at, with}
use Rattle.bg_wire.specs.Entries.RulesReading.{rules_at}
use Rattle.bg_wire.specs.Saved.SavedReading.{number_in, saved_claim_in, rules_in, front_in, front_at}
use Rattle.bg_wire.proofs.Laws.{Law, Then, Mapped, HasText, has_then, has_mapped, with_law, other_text, done_of}
use Rattle.bg_wire.proofs.Widths.{Of, IsAll, then_field, then_fields, last_field}
use Rattle.bg_wire.proofs.Fields.{Byte, Long, Word, NumberIn, has_byte, has_long, has_word, has_number_in, one_byte, u32_law, u64_law, number_in_law}
use Rattle.bg_wire.proofs.EntryLaws.{Spells}
use Rattle.bg_wire.proofs.RulesLaws.{rules_byte_law}
use Rattle.bg_wire.proofs.OfSaves.SavedClaims.{Claim, byte_len, long_len, word_len, claim_law, claim_all, has_claim}

-- ---- the rules

abbrev pub RulesText : Layout → Rules → List ℕ → Type 0
RulesText layout which front = AreRulesIn layout which × (front ≡ rules_text layout which)

one_alone : (which : Rules) → AreRulesIn One which → rules.One ≡ which
one_alone rules.One h = refl
one_alone rules.Two h = absurd h

pub all_in_two : (which : Rules) → AreRulesIn Two which
all_in_two rules.One = tt
all_in_two rules.Two = tt

rules_law : (layout : Layout) → Law (Of (rules_fields layout)) (rules_in layout) (RulesText layout)
unfolding rules_in
rules_law One =
    other_text _ (λ r front h. (subst (AreRulesIn One) h.0 tt, h.1)) (λ r front h. (one_alone r h.0, h.1))
    (done_of (Of Done) rules.One)
rules_law Two =
    other_text _ (λ r front h. (all_in_two r, h)) (λ r front h. h.1)
    (last_field 1 (λ byte. Done) rules_at rules_byte_law)

pub rules_text_all : (layout : Layout) (which : Rules) → IsAll (rules_fields layout) (rules_text layout which)
rules_text_all One which = refl
rules_text_all Two which = (omega arith, omega arith, refl)

has_rules : (layout : Layout) → HasText (RulesText layout)
has_rules layout = (rules.One, rules_text layout rules.One, (tt, refl))

pub count_all : (layout : Layout) (n : ℕ) → IsAll (Field (number_width layout) (λ count. Done)) (number_text layout n)
count_all One n = (omega arith, omega arith, refl)
count_all Two n = (omega arith, omega arith, refl)

-- ---- what stands before the entries

-- the fields from the rules on
abbrev from_rules_fields : Layout → Fields
from_rules_fields layout = followed_by (rules_fields layout) (save_fields layout)

abbrev pub front_with : Layout → ℕ → ℕ → ℕ → Rules → ℕ → Claim → ℕ → Front
front_with layout party id points which save claim count = record {
  layout = layout;
  party = party;
  id = id;
  terms = terms_of points which;
  save = save;
  claim = claim;
  count = count;
}

module _ (layout : Layout) (party : ℕ) where
  abbrev from_claim : ℕ → ℕ → Rules → ℕ → Cursor → Read Front
  from_claim id n which save c =
      saved_claim_in layout party c >>= λ k. with (front_with layout party id n which save k.0) (number_in layout 0 k.1)

  abbrev from_save : ℕ → ℕ → Rules → Cursor → Read Front
  from_save id n which c = u32_at least_save greatest_save c >>= λ save. from_claim id n which save.0 save.1

  abbrev from_rules : ℕ → ℕ → Cursor → Read Front
  from_rules id n c = rules_in layout c >>= λ which. from_save id n which.0 which.1

  abbrev from_length : ℕ → Cursor → Read Front
  from_length id c = u8_at shortest_match longest_match c >>= λ n. from_rules id n.0 n.1

  abbrev from_id : Cursor → Read Front
  from_id c = u64_at c >>= λ id. from_length id.0 id.1

  abbrev ClaimOn : ℕ → ℕ → Rules → ℕ → Front → List ℕ → Type 0
  ClaimOn id n which save = Then (Spells (IsClaimIn layout party) (claim_text layout))
      (λ k. Mapped (front_with layout party id n which save k) (NumberIn layout 0))

  abbrev SaveOn : ℕ → ℕ → Rules → Front → List ℕ → Type 0
  SaveOn id n which = Then (Long least_save greatest_save) (ClaimOn id n which)

  abbrev RulesOn : ℕ → ℕ → Front → List ℕ → Type 0
  RulesOn id n = Then (RulesText layout) (SaveOn id n)

  abbrev LengthOn : ℕ → Front → List ℕ → Type 0
  LengthOn id = Then (Byte shortest_match longest_match) (RulesOn id)

  abbrev IdOn : Front → List ℕ → Type 0
  IdOn = Then Word LengthOn

  has_count : (id n : ℕ) (which : Rules) (save : ℕ) (k : Claim)
      → HasText (Mapped (front_with layout party id n which save k) (NumberIn layout 0))
  has_count id n which save k =
      has_mapped (front_with layout party id n which save k) (has_number_in layout 0 (omega arith))

  has_claim_on : (id n : ℕ) (which : Rules) (save : ℕ) → HasText (ClaimOn id n which save)
  has_claim_on id n which save = has_then (has_claim layout party) (λ k first h. has_count id n which save k)

  has_save_on : (id n : ℕ) (which : Rules) → HasText (SaveOn id n which)
  has_save_on id n which = has_then (has_long least_save greatest_save (omega arith) (omega arith))
      (λ save first h. has_claim_on id n which save)

  has_rules_on : (id n : ℕ) → HasText (RulesOn id n)
  has_rules_on id n = has_then (has_rules layout) (λ which first h. has_save_on id n which)

  has_length_on : (id : ℕ) → HasText (LengthOn id)
  has_length_on id = has_then (has_byte shortest_match longest_match (omega arith)) (λ n first h. has_rules_on id n)

  has_id_on : HasText IdOn
  has_id_on = has_then has_word (λ id first h. has_length_on id)

  abbrev count_field : Fields
  count_field = Field (number_width layout) (λ count. Done)

  claim_on : (id n : ℕ) (which : Rules) (save : ℕ)
      → Law (Of (followed_by (claim_fields layout) count_field)) (from_claim id n which save)
      (ClaimOn id n which save)
  claim_on id n which save =
      then_fields (claim_fields layout) count_field (saved_claim_in layout party)
      (λ k c. with (front_with layout party id n which save k) (number_in layout 0 c))
      (claim_law layout party) (claim_all layout party)
      (λ k. with_law (front_with layout party id n which save k) (number_in layout 0)
      (last_field (number_width layout) (λ count. Done) (number_in layout 0) (number_in_law layout 0)))
      (λ k first h. has_count id n which save k)

  save_on : (id n : ℕ) (which : Rules) → Law (Of (save_fields layout)) (from_save id n which) (SaveOn id n which)
  save_on id n which =
      then_field 4 _ (λ save. followed_by (claim_fields layout) count_field) (u32_at least_save greatest_save)
      (from_claim id n which) (omega arith)
      (u32_law least_save greatest_save) (long_len least_save greatest_save) (λ save first h. refl)
      (claim_on id n which)
      (λ save first h. has_claim_on id n which save)

  rules_on : (id n : ℕ) → Law (Of (from_rules_fields layout)) (from_rules id n) (RulesOn id n)
  rules_on id n =
      then_fields (rules_fields layout) (save_fields layout) (rules_in layout) (from_save id n)
      (rules_law layout)
      (λ r front h. subst (IsAll (rules_fields layout)) (sym h.1) (rules_text_all layout r)) (save_on id n)
      (λ which first h. has_save_on id n which)

  length_on : (id : ℕ) → Law (Of (Field 1 (λ length. from_rules_fields layout))) (from_length id) (LengthOn id)
  length_on id =
      then_field 1 _ (λ n. from_rules_fields layout) (u8_at shortest_match longest_match) (from_rules id) (omega arith)
      (one_byte shortest_match longest_match) (byte_len shortest_match longest_match) (λ n first h. refl)
      (rules_on id) (λ n first h. has_rules_on id n)

  id_on : Law (Of (Field 8 (λ id. Field 1 (λ length. from_rules_fields layout)))) from_id IdOn
  id_on =
      then_field 8 _ (λ id. Field 1 (λ length. from_rules_fields layout)) u64_at from_length (omega arith) u64_law
      word_len (λ id first h. refl)
      length_on (λ id first h. has_length_on id)

abbrev pub PartyOn : Layout → Front → List ℕ → Type 0
PartyOn layout = Then (Byte referee seat_of_o) (IdOn layout)

has_party_on : (layout : Layout) → HasText (PartyOn layout)
has_party_on layout = has_then (has_byte referee seat_of_o (omega arith)) (λ party first h. has_id_on layout party)

front_in_law : (layout : Layout) → Law (Of (front_fields layout)) (front_in layout) (PartyOn layout)
unfolding front_in
front_in_law layout =
    then_field 1 _ (λ party. Field 8 (λ id. Field 1 (λ length. from_rules_fields layout))) (u8_at referee seat_of_o)
    (from_id layout) (omega arith)
    (one_byte referee seat_of_o) (byte_len referee seat_of_o) (λ party first h. refl) (id_on layout)
    (λ party first h. has_id_on layout party)

-- ---- the magic, which says the layout

magic_cases : (m : ℕ) → magic_of One ≤ m → m ≤ magic_of Two → (m ≡ magic_of One) ⊎ (m ≡ magic_of Two)
magic_cases m low high = elim (cases_eq m (magic_of One)) [
  | inl same ↦ inl same
  | inr other ↦ inr (omega (arith, low, high, other))
]

pub magic_is : (m : ℕ) → magic_of One ≤ m → m ≤ magic_of Two → m ≡ magic_of (layout_of_magic m)
magic_is m low high = elim (magic_cases m low high) [ inl is ↦ rw is refl | inr is ↦ rw is refl ]

pub layout_is : (layout : Layout) → layout_of_magic (magic_of layout) ≡ layout
layout_is One = refl
layout_is Two = refl

pub magic_fits : (layout : Layout) → magic_of layout < 2 ^ 32
magic_fits One = omega arith
magic_fits Two = omega arith

-- the fields that bytes say, by the number that they are
pub magic_fields : (m : ℕ) (front : List ℕ) → m < 2 ^ 32 → front ≡ to_be_bytes w32 m
    → front_fields (layout_of_magic (from_be_bytes w32 front)) ≡ front_fields (layout_of_magic m)
magic_fields m front fits text =
    ap (λ (n : ℕ). front_fields (layout_of_magic n)) (ap (from_be_bytes w32) text ∙ from_be_bytes-to_be_bytes_4 m fits)

abbrev pub FrontParts : Front → List ℕ → Type 0
FrontParts = Then (Long (magic_of One) (magic_of Two)) (λ m. PartyOn (layout_of_magic m))

pub front_parts_law : Law (Of saved_fields) front_at FrontParts
unfolding front_at
front_parts_law =
    then_field 4 _ (λ m. front_fields (layout_of_magic m)) (u32_at (magic_of One) (magic_of Two))
    (λ m. front_in (layout_of_magic m)) (omega arith)
    (u32_law (magic_of One) (magic_of Two)) (long_len (magic_of One) (magic_of Two))
    (λ m front h. magic_fields m front h.2 h.3) (λ m. front_in_law (layout_of_magic m))
    (λ m first h. has_party_on (layout_of_magic m))
