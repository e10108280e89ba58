-- The loop over the places from which a step can be played, the highest point first.
use Rattle.std.proofs.Common.{◌≡◌, ◌≢◌, ◌↔◌, ℕ, ◌-◌, ◌*◌, ◌%◌, ◌^◌, ◌<◌, ◌≤◌, true, List, [], ◌++◌, sym, ◌∙◌, ap, subst, arith, inl, inr, ◌⊎◌, w32}
use Rattle.std.specs.Int.{bit_at, trailing_zeros}
use lib.Bits.{bit_and}
use Rattle.std.specs.Int.RustNames.{bit_or}
use Rattle.std.proofs.lemmas.Bool.{cases_eq, cases_lt, false_from_ne_true}
use Rattle.std.proofs.lemmas.Nat.Bits.{bit_at_or, bit_at-lt, bit_at-trailing_zeros, bit_at_clear_same, bit_at_clear_other, bit_at-zero}
use Rattle.bg_board.specs.FromTo.{FromTo}
use Rattle.bg_turns.specs.declared.mover_counts.MoverCounts.{MoverCounts}
use Rattle.bg_turns.specs.MoverCounts.{can, at_each, one_die, two_dice, behind}
use Rattle.bg_turns.specs.Masks.{ArePlaces}
use Rattle.bg_turns.proofs.Lists.Listed.{at_each-above, one_die-no}
use Rattle.bg_turns.proofs.Lists.TwoDice.{two_dice-apart}
use Rattle.bg_turns.proofs.Lists.Growing.{finished}

-- the places that are left are those of P up to a point
pub record IsLeft (P : ℕ → Type 0) (below places : ℕ) : Type 0 where
  pub within : below ≤ 25
  pub each : (q : ℕ) → q ≤ 24 → (bit_at places q ≡ 1) ↔ ((25 - q ≤ below) × P (25 - q))
  pub only : (q : ℕ) → 25 ≤ q → q < 32 → bit_at places q ≡ 0

-- a step by the die starts there
abbrev pub CanFrom : MoverCounts → ℕ → ℕ → Type 0
CanFrom r die from = can r from die ≡ true

-- a step by one of two dice does
abbrev pub CanFromEither : MoverCounts → ℕ → ℕ → ℕ → Type 0
CanFromEither r small large from = (can r from small ≡ true) ⊎ (can r from large ≡ true)

-- at first all are left
pub left_first : (r : MoverCounts) (die places : ℕ) → ArePlaces places r die → IsLeft (CanFrom r die) 25 places
left_first r die places are = record {
  within = omega arith;
  each = λ q low. (λ on. (omega arith, (are.each q low).0 on), λ h. (are.each q low).1 h.1);
  only = λ q past _. are.only q past;
}

pub either_first : (r : MoverCounts) (small large by_small by_large : ℕ) → ArePlaces by_small r small → ArePlaces by_large r large → IsLeft (CanFromEither r small large) 25 (bit_or by_small by_large)
either_first r small large by_small by_large a b = record { within = omega arith; each = each; only = only } where
  each : (q : ℕ) → q ≤ 24 → (bit_at (bit_or by_small by_large) q ≡ 1) ↔ ((25 - q ≤ 25) × CanFromEither r small large (25 - q))
  each q low =
      let both = bit_at_or by_small by_large q in
      let one = bit_at-lt by_small q in
      let two = bit_at-lt by_large q in (
        λ on. (
          omega arith,
          elim (cases_eq (bit_at by_small q) 1) [
            | inl first ↦ inl ((a.each q low).0 first)
            | inr other ↦ inr ((b.each q low).0 (omega arith))
          ],
        ),
        λ h. elim h.1 [
          | inl first ↦ (let on = (a.each q low).1 first in omega arith)
          | inr second ↦ (let on = (b.each q low).1 second in omega arith)
        ],
      )

  only : (q : ℕ) → 25 ≤ q → q < 32 → bit_at (bit_or by_small by_large) q ≡ 0
  only q past within =
      let both = bit_at_or by_small by_large q in
      let none = a.only q past in
      let none' = b.only q past in
      omega arith

module _ (P : ℕ → Type 0) (below places : ℕ) (left : IsLeft P below places) where
  module _ (some : places ≢ 0) (small : places < 4294967296) where
    pub place_low : trailing_zeros w32 places ≤ 24
    place_low =
        let z = bit_at-trailing_zeros w32 places (omega arith) small in
        elim (cases_lt 24 (trailing_zeros w32 places)) [
          | inl past ↦ (let none = left.only (trailing_zeros w32 places) past z.0 in let one = z.1 in absurd (omega arith))
          | inr low ↦ low
        ]

    pub start_low : 1 ≤ 25 - trailing_zeros w32 places
    start_low = let low = place_low in omega arith

    place_there : (25 - trailing_zeros w32 places ≤ below) × P (25 - trailing_zeros w32 places)
    place_there = (left.each (trailing_zeros w32 places) place_low).0 (bit_at-trailing_zeros w32 places (omega arith) small).1

    pub place_passed : P (25 - trailing_zeros w32 places)
    place_passed = place_there.1

    pub place_below : 25 - trailing_zeros w32 places ≤ below
    place_below = place_there.0

    pub fewer : 25 - trailing_zeros w32 places - 1 < below
    fewer = let low = place_low in let high = place_below in omega arith

    pub none_between : (m : ℕ) → 25 - trailing_zeros w32 places < m → m ≤ below → P m → ⊥
    none_between m above up there =
        let z = bit_at-trailing_zeros w32 places (omega arith) small in
        let inside = left.within in
        let off = z.2 (25 - m) (omega arith) in
        let back : m ≡ 25 - (25 - m) = omega arith in
        let on = (left.each (25 - m) (omega arith)).1 (omega arith, subst P back there) in
        omega arith

    abbrev cleared : ℕ
    cleared = bit_and places (4294967295 - 1 * 2 ^ trailing_zeros w32 places % 4294967296)

    kept : (q : ℕ) → q < 32 → q ≢ trailing_zeros w32 places → bit_at cleared q ≡ bit_at places q
    kept q within other =
        let z = bit_at-trailing_zeros w32 places (omega arith) small in
        bit_at_clear_other w32 places (trailing_zeros w32 places) z.0 q within other

    left_each : (q : ℕ) → q ≤ 24 → (bit_at cleared q ≡ 1) ↔ ((25 - q ≤ 25 - trailing_zeros w32 places - 1) × P (25 - q))
    left_each q low =
        let z = bit_at-trailing_zeros w32 places (omega arith) small in
        let first = place_low in
        elim (cases_eq q (trailing_zeros w32 places)) [
          | inl same ↦
              let off : bit_at cleared (trailing_zeros w32 places) ≡ 0 = bit_at_clear_same w32 places (trailing_zeros w32 places) z.0 in
              (λ on. absurd (clash _ _ _ same off on), λ h. absurd (let high = h.0 in omega arith))
          | inr other ↦
              let same = kept q (omega arith) other in (
                λ on.
                    let was : bit_at places q ≡ 1 = sym same ∙ on in
                    let is = (left.each q low).0 was in (
                      elim (cases_lt q (trailing_zeros w32 places)) [
                        | inl before ↦ (let none = z.2 q before in absurd (omega arith))
                        | inr behind_it ↦ omega arith
                      ],
                      is.1,
                    ),
                λ h. same ∙ (left.each q low).1 (let up = h.0 in let bound = place_below in omega arith, h.1),
              )
        ] where
          clash : (f q t : ℕ) → q ≡ t → bit_at f t ≡ 0 → bit_at f q ≡ 1 → ⊥
          clash f q t same off on = let zero_is = rw (← same) at off in omega arith

    pub left_after : IsLeft P (25 - trailing_zeros w32 places - 1) cleared
    left_after = record {
      within = omega arith;
      each = left_each;
      only = λ q past inside. (let low = place_low in kept q inside (omega arith) ∙ left.only q past inside);
    }

  -- at the end nothing is left
  pub none_left : places ≡ 0 → (m : ℕ) → 0 < m → m ≤ below → P m → ⊥
  none_left none m above up there =
      let inside = left.within in
      let back : m ≡ 25 - (25 - m) = omega arith in
      let on = (left.each (25 - m) (omega arith)).1 (omega arith, subst P back there) in
      let off : bit_at places (25 - m) ≡ 0 = ap (λ n. bit_at n (25 - m)) none ∙ bit_at-zero (25 - m) in
      omega arith

-- the lists behind some steps, with those that are left
abbrev pub IsListed : (ℕ → List (List FromTo)) → List FromTo → ℕ → List (List FromTo) → List (List FromTo) → Type 0
IsListed f front below items start = items ++ behind front (at_each f below) ≡ start ++ behind front (at_each f 25)

module _ (P : ℕ → Type 0) (below places : ℕ) (left : IsLeft P below places) (f : ℕ → List (List FromTo)) (none : (m : ℕ) → (P m → ⊥) → f m ≡ [])
    (front : List FromTo) (items start : List (List FromTo)) (listed : IsListed f front below items start) where
  -- up to the place that is next
  pub listed_there : places ≢ 0 → places < 4294967296 → items ++ behind front (at_each f (25 - trailing_zeros w32 places)) ≡ start ++ behind front (at_each f 25)
  listed_there some small =
      let skipped = at_each-above f below (25 - trailing_zeros w32 places) (place_below P below places left some small) (λ m above up. none m (none_between P below places left some small m above up)) in
      ap (λ xs. items ++ behind front xs) (sym skipped) ∙ listed

  pub listed_all : places ≡ 0 → items ≡ start ++ behind front (at_each f 25)
  listed_all empty =
      let skipped = at_each-above f below 0 (omega arith) (λ m above up. none m (none_left P below places left empty m above up)) in
      finished f 0 front items _ (omega arith) (ap (λ xs. items ++ behind front xs) (sym skipped) ∙ listed)

-- where no step starts, no list does
pub none_by_die : (r : MoverCounts) (die : ℕ) (rest : MoverCounts → List (List FromTo)) (m : ℕ) → (CanFrom r die m → ⊥) → one_die r die rest m ≡ []
none_by_die r die rest m fails = one_die-no r die rest m (false_from_ne_true (can r m die) fails)

pub none_by_either : (r : MoverCounts) (small large : ℕ) (both after_small after_large : MoverCounts → List (List FromTo)) (m : ℕ) → (CanFromEither r small large m → ⊥) → two_dice r small large both after_small after_large m ≡ []
none_by_either r small large both after_small after_large m fails =
    let a = false_from_ne_true (can r m small) (λ passed. fails (inl passed)) in
    let b = false_from_ne_true (can r m large) (λ passed. fails (inr passed)) in
    two_dice-apart r small large both after_small after_large m (inl a)
    ∙ (ap (λ xs. xs ++ one_die r large after_large m) (one_die-no r small after_small m a) ∙ one_die-no r large after_large m b)
