-- The law of the claim in a saved text, in either layout.
use Rattle.std.proofs.Common.{◌≡◌, ℕ, zero, suc, ◌*◌, ◌≤◌, Bool, true, false, cond, List, [], ◌∷◌, ◌++◌, length, Option, Some, None, Ok, refl, sym, ap, subst, ◌∙◌, arith}
use Rattle.std.specs.Prelude.{◌==◌}
use Rattle.std.specs.List.{flat_map}
use Rattle.std.proofs.lemmas.Bool.Decides.{nat_tests}
use Rattle.bg_match.specs.Entry.{IsAction}
use Rattle.bg_match.specs.declared.actions.Action.{Action}
use Rattle.bg_match.specs.declared.actions.Action.TheVariants as action
use Rattle.bg_wire.specs.Entries.Codes.{moved_code, resigned_code, first_number, seat_of_x, referee, no_claim_flag, claim_flag}
use Rattle.bg_wire.specs.declared.saves.layouts.Layout.{Layout}
use Rattle.bg_wire.specs.declared.saves.layouts.Layout.TheVariants.{One, Two}
use Rattle.bg_wire.specs.Entries.Fields.{Done, Field, bytes_each, first_byte}
use Rattle.bg_wire.specs.Entries.EntryText.{step_bytes, action_bytes, behind_code, action_fields}
use Rattle.bg_wire.specs.Saved.SavedLayouts.{last_number, number_width, number_text, claim_text, behind_flag, claim_fields}
use Rattle.bg_wire.specs.Saved.SavedText.{IsClaimIn, IsClaimOf}
use Rattle.bg_wire.specs.Entries.Reading.{u8_at, with}
use Rattle.bg_wire.specs.Entries.EntryReading.{action_at}
use Rattle.bg_wire.specs.Saved.SavedReading.{most_flag, number_in, kept_claim_in, flagged_in, saved_claim_in}
use Rattle.bg_wire.proofs.Lengths.{length-steps}
use Rattle.bg_wire.proofs.Laws.{Law, Then, Nothing, Mapped, Choice, HasText, has_then, has_mapped, has_choice, with_law, other_text, done_of}
use Rattle.bg_wire.proofs.Widths.{Of, IsAll, AreBytes, then_field, each_field, bytes_each_one, choice_of, all_of_field, all_each}
use Rattle.bg_wire.proofs.Fields.{Byte, Long, Word, NumberIn, has_number_in, one_byte, number_in_law, number_some, number_len, last_fits}
use Rattle.bg_wire.proofs.EntryLaws.{Spells, action_law, has_action}

abbrev pub Claim : Type 0
Claim = Option (ℕ × Action)

abbrev claim_with : ℕ → Action → Claim
claim_with n a = Some (n, a)

pub byte_len : (low high x : ℕ) (front : List ℕ) → Byte low high x front → length front ≡ 1
byte_len low high x front h = ap length h.2

pub long_len : (low high n : ℕ) (front : List ℕ) → Long low high n front → length front ≡ 4
long_len low high n front h = ap length h.3

pub word_len : (n : ℕ) (front : List ℕ) → Word n front → length front ≡ 8
word_len n front h = ap length h.1

pub number_in_len : (layout : Layout) (low n : ℕ) (front : List ℕ) → NumberIn layout low n front
    → length front ≡ number_width layout
number_in_len layout low n front h = ap length h.3 ∙ number_len layout n

-- each byte of an action is a field
behind_are_bytes : (code : ℕ) → AreBytes (behind_code code)
behind_are_bytes code = go (code == moved_code) (code == resigned_code)
  where
    go : (a b : Bool) → AreBytes (
        cond a (Field 1 (λ count. bytes_each (2 * first_byte count))) (cond b (Field 1 (λ level. Done)) Done)
        )
    go true b = (refl, λ bytes. bytes_each_one (2 * first_byte bytes))
    go false true = (refl, λ bytes. tt)
    go false false = tt

action_are_bytes : AreBytes action_fields
action_are_bytes = (refl, λ code. behind_are_bytes (first_byte code))

action_all : (a : Action) → IsAll action_fields (action_bytes a)
action_all action.Roll = (omega arith, omega arith, refl)
action_all action.Double = (omega arith, omega arith, refl)
action_all action.Take = (omega arith, omega arith, refl)
action_all action.Drop = (omega arith, omega arith, refl)
action_all (action.Move turn) = (
  omega arith,
  omega arith,
  (omega arith, omega arith, all_each (2 * length turn) (flat_map step_bytes turn) (length-steps turn)),
)
action_all (action.Resign level) = (omega arith, omega arith, (omega arith, omega arith, refl))
action_all action.Accept = (omega arith, omega arith, refl)
action_all action.Reject = (omega arith, omega arith, refl)

seat_flag : (party : ℕ) → most_flag (suc party) ≡ claim_flag
seat_flag party = let is : (suc party == referee) ≡ false = grind (arith, nat_tests) in rw is refl

-- the flag of a claim is only of a seat
flag_of_seat : (party : ℕ) → claim_flag ≤ most_flag party → seat_of_x ≤ party
flag_of_seat zero le = absurd (omega arith)
flag_of_seat (suc party) le = omega arith

seat_may : (party : ℕ) → seat_of_x ≤ party → claim_flag ≤ most_flag party
seat_may zero le = absurd (omega arith)
seat_may (suc party) le = let is = seat_flag party in omega (arith, is)

most_flag_is : (party : ℕ) → most_flag party ≤ claim_flag
most_flag_is zero = omega arith
most_flag_is (suc party) = let is = seat_flag party in omega (arith, is)

some_number : (layout : Layout) → first_number ≤ last_number layout
some_number One = omega arith
some_number Two = omega arith

module _ (layout : Layout) where
  abbrev KeptParts : Claim → List ℕ → Type 0
  KeptParts = Then (NumberIn layout first_number) (λ n. Mapped (claim_with n) (Spells IsAction action_bytes))

  kept_law : Law (Of (Field (number_width layout) (λ number. action_fields))) (kept_claim_in layout) KeptParts
  unfolding kept_claim_in
  kept_law =
      then_field (number_width layout) _ (λ n. action_fields) (number_in layout first_number)
      (λ n c. with (claim_with n) (action_at c)) (number_some layout)
      (number_in_law layout first_number) (number_in_len layout first_number) (λ n first h. refl)
      (λ n. with_law (claim_with n) action_at (each_field action_fields action_at action_are_bytes action_law))
      (λ n first h. has_mapped (claim_with n) has_action)

  has_kept : HasText KeptParts
  has_kept = has_then (has_number_in layout first_number (some_number layout))
      (λ n first h. has_mapped (claim_with n) has_action)

  abbrev Flagged : ℕ → Claim → List ℕ → Type 0
  Flagged flag = Choice (flag == no_claim_flag) (Nothing None) KeptParts

  flagged_law : (flag : ℕ) → Law (Of (behind_flag layout flag)) (flagged_in layout flag) (Flagged flag)
  flagged_law flag = choice_of (flag == no_claim_flag) Done _ (λ c. Ok (None, c)) (kept_claim_in layout)
      (done_of (Of Done) None) kept_law

  has_flagged : (flag : ℕ) → HasText (Flagged flag)
  has_flagged flag = has_choice (flag == no_claim_flag) (None, [], (refl, refl)) has_kept

  abbrev ClaimParts : ℕ → Claim → List ℕ → Type 0
  ClaimParts party = Then (Byte no_claim_flag (most_flag party)) Flagged

  claim_to : (party : ℕ) (k : Claim) (front : List ℕ) → ClaimParts party k front
      → Spells (IsClaimIn layout party) (claim_text layout) k front
  claim_to party k front h = go h.0 refl
    where
      go : (flag : ℕ) → h.0 ≡ flag → Spells (IsClaimIn layout party) (claim_text layout) k front
      go zero is =
          let rest = subst (λ (n : ℕ). Flagged n k h.2) is h.4 in
          let text : front ≡ no_claim_flag ∷ [] = h.5 ∙ ap (λ (r : List ℕ). r ++ h.2) h.3.2
          ∙ ap (λ (n : ℕ). n ∷ h.2) is ∙ ap (λ (r : List ℕ). no_claim_flag ∷ r) rest.1 in
          subst (λ (x : Claim). Spells (IsClaimIn layout party) (claim_text layout) x front) rest.0 (tt, text)
      go (suc zero) is =
          let rest = subst (λ (n : ℕ). Flagged n k h.2) is h.4 in
          let seat = flag_of_seat party (omega (arith, is, h.3.1)) in
          let last : h.2 ≡ number_text layout rest.0 ++ action_bytes rest.4.0 =
          rest.5 ∙ ap (λ (r : List ℕ). r ++ rest.2) rest.3.3
          ∙ ap (λ (r : List ℕ). number_text layout rest.0 ++ r) rest.4.1.1 in
          let text : front ≡ claim_text layout (claim_with rest.0 rest.4.0) =
          h.5 ∙ ap (λ (r : List ℕ). r ++ h.2) h.3.2 ∙ ap (λ (n : ℕ). n ∷ h.2) is
          ∙ ap (λ (r : List ℕ). claim_flag ∷ r) last in
          subst (λ (x : Claim). Spells (IsClaimIn layout party) (claim_text layout) x front) rest.4.2
          ((seat, (rest.3.0, rest.3.1, rest.4.1.0)), text)
      go (suc (suc n)) is = absurd (omega (arith, is, h.3.1, most_flag_is party))

  claim_from : (party : ℕ) (k : Claim) (front : List ℕ) → Spells (IsClaimIn layout party) (claim_text layout) k front
      → ClaimParts party k front
  claim_from party None front h =
      (no_claim_flag, no_claim_flag ∷ [], [], (omega arith, omega arith, refl), (refl, refl), h.1)
  claim_from party (Some x) front h =
      let kept = h.0.1 in
      let fits = last_fits layout in
      let last = number_text layout x.0 ++ action_bytes x.1 in (
        claim_flag,
        claim_flag ∷ [],
        last,
        (omega arith, seat_may party h.0.0, refl),
        (
          x.0,
          number_text layout x.0,
          action_bytes x.1,
          (kept.0, kept.1, omega (arith, kept.1, fits), refl),
          (x.1, (kept.2, refl), refl),
          refl,
        ),
        h.1,
      )

  pub claim_law : (party : ℕ)
      → Law (Of (claim_fields layout)) (saved_claim_in layout party)
      (Spells (IsClaimIn layout party) (claim_text layout))
  unfolding saved_claim_in
  claim_law party =
      other_text _ (claim_to party) (claim_from party)
      (then_field 1 _ (behind_flag layout) (u8_at no_claim_flag (most_flag party)) (flagged_in layout) (omega arith)
      (one_byte no_claim_flag (most_flag party)) (byte_len no_claim_flag (most_flag party))
      (λ flag first h. ap (λ (f : List ℕ). behind_flag layout (first_byte f)) h.2) flagged_law
      (λ flag first h. has_flagged flag))

  pub claim_text_all : (k : Claim) → IsAll (claim_fields layout) (claim_text layout k)
  claim_text_all None = (omega arith, omega arith, refl)
  claim_text_all (Some x) =
      all_of_field 1 (λ flag. behind_flag layout (first_byte flag)) (claim_flag ∷ [])
      (number_text layout x.0 ++ action_bytes x.1) (omega arith) refl
      (all_of_field (number_width layout) (λ number. action_fields) (number_text layout x.0) (action_bytes x.1)
      (number_some layout) (number_len layout x.0) (action_all x.1))

  pub claim_all : (party : ℕ) (k : Claim) (front : List ℕ)
      → Spells (IsClaimIn layout party) (claim_text layout) k front → IsAll (claim_fields layout) front
  claim_all party k front h = subst (IsAll (claim_fields layout)) (sym h.1) (claim_text_all k)

  pub has_claim : (party : ℕ) → HasText (Spells (IsClaimIn layout party) (claim_text layout))
  has_claim party = (None, claim_text layout None, (tt, refl))

-- a claim of either layout may be written
pub claim_may : (layout : Layout) (party : ℕ) (k : Claim) → IsClaimIn layout party k → IsClaimOf party k
claim_may layout party None h = tt
claim_may One party (Some x) h = (h.0, (h.1.0, omega (arith, h.1.1), h.1.2))
claim_may Two party (Some x) h = h
