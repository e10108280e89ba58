-- The bits that the masks compute are the places from which a step can be played.
use Rattle.std.proofs.Common.{◌≡◌, ◌≢◌, ◌↔◌, ℕ, ◌+◌, ◌-◌, ◌*◌, ◌%◌, ◌^◌, ◌<◌, ◌≤◌, min, true, ◌&&◌, ◌||◌, leb, eqb, get_or, sym, ◌∙◌, ap, arith, inl, inr, ◌⊎◌, w32}
use Rattle.std.specs.Int.{bit_at, trailing_zeros}
use lib.Bits.{bit_and}
use Rattle.std.proofs.lemmas.Bool.{cases_eq, cases_lt, eq-eqb, ne_eqb, ltb-true, lt-ltb, both_ways, false_from_ne_true}
use Rattle.std.proofs.lemmas.Bool.Decides.{nat_tests}
use Rattle.std.proofs.lemmas.List.{get_or_past}
use Rattle.std.proofs.lemmas.Nat.Bits.{bit_at-lt, bit_at-zero, bit_at_and, bit_at_above, bit_at-trailing_zeros, bit_at-pow_same, bit_at-pow_other}
use Rattle.bg_turns.specs.declared.mover_counts.MoverCounts.{MoverCounts}
use Rattle.bg_turns.specs.declared.masks.Masks.{Masks}
use Rattle.bg_turns.specs.MoverCounts.{IsMoverCounts, IsHighest, can, is_off}
use Rattle.bg_turns.specs.Masks.{AreMasks, ArePlaces}
use Rattle.bg_turns.proofs.Bits.Single.{power}
use Rattle.bg_turns.proofs.Sides.{can-bar, can-point, can-bear_off, held_from_can, none_when_off, off_when_none}

-- what the places below one say, by the masks
abbrev pub AreLanding : Masks → ℕ → ℕ → ℕ → Type 0
AreLanding m die below bits =
    ((q : ℕ) → q < below → bit_at bits q ≡ min (bit_at m.held q) (1 - bit_at m.blocked (die + q)))
    × ((q : ℕ) → below ≤ q → bit_at bits q ≡ 0)

module _ (m : Masks) (r : MoverCounts) (is : IsMoverCounts r) (are : AreMasks m r) where
  -- the lowest bit is the highest point
  module _ (some : m.held ≢ 0) where
    lowest : (trailing_zeros w32 m.held < 32) × (bit_at m.held (trailing_zeros w32 m.held) ≡ 1) × ((i : ℕ) → i < trailing_zeros w32 m.held → bit_at m.held i ≡ 0)
    lowest = bit_at-trailing_zeros w32 m.held (omega arith) are.held_small

    pub lowest_within : trailing_zeros w32 m.held ≤ 24
    lowest_within = elim (cases_lt 24 (trailing_zeros w32 m.held)) [
      | inl past ↦ (let none = are.held_only (trailing_zeros w32 m.held) past in let one = lowest.1 in absurd (omega arith))
      | inr low ↦ low
    ]

    none_above : (k : ℕ) → 25 - trailing_zeros w32 m.held < k → get_or r.own k 0 ≡ 0
    none_above k high = elim (cases_lt 25 k) [
      | inl past ↦ get_or_past r.own k 0 (let long = is.points in omega arith)
      | inr low ↦
          let off = lowest.2 (25 - k) (omega arith) in
          let back : 25 - (25 - k) ≡ k = omega arith in
          elim (cases_lt 0 (get_or r.own k 0)) [
            | inl held ↦ (let on = (are.held (25 - k) (omega arith)).1 (rw back held) in absurd (omega arith))
            | inr none ↦ omega arith
          ]
    ]

    pub highest_of : IsHighest r.own (25 - trailing_zeros w32 m.held)
    highest_of = record {
      within = omega arith;
      none_above = none_above;
      held = λ on. (are.held (trailing_zeros w32 m.held) lowest_within).0 lowest.1;
    }

  -- no checker, no bit
  pub none_held : m.held ≡ 0 → (k : ℕ) → 1 ≤ k → get_or r.own k 0 ≡ 0
  none_held none k low = elim (cases_lt 25 k) [
    | inl past ↦ get_or_past r.own k 0 (let long = is.points in omega arith)
    | inr high ↦
        let back : 25 - (25 - k) ≡ k = omega arith in
        let off : bit_at m.held (25 - k) ≡ 0 = ap (λ n. bit_at n (25 - k)) none ∙ bit_at-zero (25 - k) in
        elim (cases_lt 0 (get_or r.own k 0)) [
          | inl held ↦ (let on = (are.held (25 - k) (omega arith)).1 (rw back held) in absurd (omega arith))
          | inr empty ↦ omega arith
        ]
  ]

  pub off_by_held : eqb m.held 0 ≡ is_off r
  off_by_held = elim (cases_eq m.held 0) [
    | inl none ↦ eq-eqb m.held 0 none ∙ sym (off_when_none r is (none_held none))
    | inr some ↦
        let t = lowest some in
        let held = (are.held (trailing_zeros w32 m.held) (lowest_within some)).0 t.1 in
        ne_eqb m.held 0 some
        ∙ sym (false_from_ne_true (is_off r) (λ off.
        let none = none_when_off r is off (25 - trailing_zeros w32 m.held) (let low = lowest_within some in omega arith) in
        absurd (omega arith)))
  ]

  module _ (die : ℕ) (low : 1 ≤ die) (few : die ≤ 6) where
    pub places_none : m.held ≡ 0 → ArePlaces 0 r die
    places_none none = record {
      each = λ q within. (
        λ on. absurd (let off = bit_at-zero q in omega arith),
        λ passed. absurd (let held = held_from_can r (25 - q) die passed in let empty = none_held none (25 - q) (omega arith) in omega arith),
      );
      only = λ q past. bit_at-zero q;
    }

    -- a step to a point
    module _ (q : ℕ) (within : q ≤ 24) (far : q < 25 - die) (enters : 0 < get_or r.own 25 0 → 25 - q ≡ 25) (bit : ℕ) (is_bit : bit ≡ min (bit_at m.held q) (1 - bit_at m.blocked (die + q))) where
      place : 25 - (25 - q - die) ≡ die + q
      place = omega arith

      forth : bit ≡ 1 → can r (25 - q) die ≡ true
      forth on =
          let one = bit_at-lt m.held q in
          let held = (are.held q within).0 (omega arith) in
          let off : bit_at m.blocked (die + q) ≢ 1 = λ wrong. omega arith in
          can-point r (25 - q) die held enters (omega arith) ∙ lt-ltb (get_or r.other (25 - (25 - q - die)) 0) 2 (rw place (single off)) where
            single : bit_at m.blocked (die + q) ≢ 1 → get_or r.other (die + q) 0 < 2
            single off = elim (cases_lt (get_or r.other (die + q) 0) 2) [
              | inl less ↦ less
              | inr more ↦ absurd (off ((are.blocked (die + q) (omega arith)).1 more))
            ]

      back : can r (25 - q) die ≡ true → bit ≡ 1
      back passed =
          let held = held_from_can r (25 - q) die passed in
          let on = (are.held q within).1 held in
          let point = can-point r (25 - q) die held enters (omega arith) in
          let less = ltb-true (get_or r.other (25 - (25 - q - die)) 0) 2 (sym point ∙ passed) in
          let free : get_or r.other (die + q) 0 < 2 = rw place at less in
          let off : bit_at m.blocked (die + q) ≢ 1 = λ one. (let two = (are.blocked (die + q) (omega arith)).0 one in absurd (omega arith)) in
          let bits = bit_at-lt m.blocked (die + q) in
          omega arith

      pub to_point : (bit ≡ 1) ↔ (can r (25 - q) die ≡ true)
      to_point = (forth, back)

    module _ (some : m.held ≢ 0) where
      abbrev top : ℕ
      top = 25 - trailing_zeros w32 m.held

      -- a step that bears off
      module _ (q : ℕ) (within : q ≤ 24) (near : 25 - die ≤ q) (enters : 0 < get_or r.own 25 0 → 25 - q ≡ 25) where
        off_is : 0 < get_or r.own (25 - q) 0 → can r (25 - q) die ≡ (leb top 6 && (eqb (25 - q) die || eqb (25 - q) top))
        off_is held =
            let h = highest_of some in
            let below : 25 - q ≤ top = elim (cases_lt top (25 - q)) [
              | inl above ↦ (let none = h.none_above (25 - q) above in absurd (omega arith))
              | inr below ↦ below
            ] in
            can-bear_off r (25 - q) die top is.points h held enters (omega arith) below (omega arith)

        pub bears_off : can r (25 - q) die ≡ true → (top ≤ 6) × ((25 - q ≡ die) ⊎ (25 - q ≡ top))
        bears_off passed = by_test top (25 - q) die (sym (off_is (held_from_can r (25 - q) die passed)) ∙ passed) where
          by_test : (t f d : ℕ) → (leb t 6 && (eqb f d || eqb f t)) ≡ true → (t ≤ 6) × ((f ≡ d) ⊎ (f ≡ t))
          by_test t f d h = grind (arith, nat_tests)

        pub off_bears : 0 < get_or r.own (25 - q) 0 → top ≤ 6 → (25 - q ≡ die) ⊎ (25 - q ≡ top) → can r (25 - q) die ≡ true
        off_bears held home h = off_is held ∙ to_test top (25 - q) die home h where
          to_test : (t f d : ℕ) → t ≤ 6 → (f ≡ d) ⊎ (f ≡ t) → (leb t 6 && (eqb f d || eqb f t)) ≡ true
          to_test t f d a b = grind (arith, nat_tests)

      -- nobody is on the bar where the highest point is lower
      no_bar : trailing_zeros w32 m.held ≢ 0 → (k : ℕ) → 0 < get_or r.own 25 0 → k ≡ 25
      no_bar lower k on = absurd (let h = highest_of some in let low = lowest_within some in let none = h.none_above 25 (omega arith) in omega arith)

      -- where the die is greater than the highest point, the highest checker is borne off
      pub places_past : 25 - die < trailing_zeros w32 m.held → ArePlaces (1 * 2 ^ trailing_zeros w32 m.held % 4294967296) r die
      places_past past =
          let t = lowest some in
          let inside = lowest_within some in
          let is_power = power (trailing_zeros w32 m.held) (omega arith) in
          record {
            each = λ q within. elim (cases_eq q (trailing_zeros w32 m.held)) [
              | inl same ↦
                  let on : bit_at (1 * 2 ^ trailing_zeros w32 m.held % 4294967296) q ≡ 1 = ap (λ n. bit_at n q) is_power ∙ (ap (λ k. bit_at (2 ^ trailing_zeros w32 m.held) k) same ∙ bit_at-pow_same (trailing_zeros w32 m.held)) in
                  let held : 0 < get_or r.own (25 - q) 0 = (are.held q within).0 (ap (λ k. bit_at m.held k) same ∙ t.1) in
                  (λ _. off_bears q within (omega arith) (no_bar (omega arith) (25 - q)) held (omega arith) (inr (omega arith)), λ _. on)
              | inr other ↦
                  let off : bit_at (1 * 2 ^ trailing_zeros w32 m.held % 4294967296) q ≡ 0 = ap (λ n. bit_at n q) is_power ∙ bit_at-pow_other (trailing_zeros w32 m.held) q other in (
                    λ on. absurd (omega arith),
                    λ passed. absurd (fails q within other passed),
                  )
            ];
            only = λ q above. ap (λ n. bit_at n q) is_power ∙ bit_at-pow_other (trailing_zeros w32 m.held) q (omega arith);
          } where
            fails : (q : ℕ) → q ≤ 24 → q ≢ trailing_zeros w32 m.held → can r (25 - q) die ≡ true → ⊥
            fails q within other passed =
                let h = highest_of some in
                let inside = lowest_within some in
                let held = held_from_can r (25 - q) die passed in
                elim (cases_lt (25 - trailing_zeros w32 m.held) (25 - q)) [
                  | inl above ↦ (let none = h.none_above (25 - q) above in omega arith)
                  | inr below ↦
                      let both = bears_off q within (omega arith) (no_bar (omega arith) (25 - q)) passed in
                      elim both.1 [ inl exact ↦ omega arith | inr at_top ↦ omega arith ]
                ]

      -- a checker on the bar enters
      pub places_bar : (bits : ℕ) → AreLanding m die (25 - die) bits → trailing_zeros w32 m.held ≡ 0 → ArePlaces (bit_and bits 1) r die
      places_bar bits landing first = record {
        each = λ q within. elim (cases_eq q 0) [
          | inl same ↦
              let one : bit_at (bit_and bits 1) q ≡ bit_at bits q = bit_at_and bits 1 q ∙ with_one (bit_at bits q) (bit_at 1 q) (ap (λ k. bit_at 1 k) same) (bit_at-lt bits q) in
              rw one (to_point q within (omega arith) (λ _. omega arith) (bit_at bits q) (landing.0 q (omega arith)))
          | inr other ↦
              let none : bit_at (bit_and bits 1) q ≡ 0 = bit_at_and bits 1 q ∙ with_none (bit_at bits q) (bit_at 1 q) (bit_at_above 1 1 q (omega arith) (omega arith)) in
              let fails = can-bar r (25 - q) die on_bar (λ is. omega arith) in
              (λ on. absurd (omega arith), λ passed. absurd (both_ways (can r (25 - q) die) fails passed))
        ];
        only = λ q past. bit_at_and bits 1 q ∙ with_none (bit_at bits q) (bit_at 1 q) (bit_at_above 1 1 q (omega arith) (omega arith));
      } where
        with_one : (a b : ℕ) → b ≡ 1 → a < 2 → min a b ≡ a
        with_one a b x y = omega arith

        with_none : (a b : ℕ) → b ≡ 0 → min a b ≡ 0
        with_none a b x = omega arith

        on_bar : 0 < get_or r.own 25 0
        on_bar = let t = lowest some in (are.held 0 (omega arith)).0 (ap (λ k. bit_at m.held k) (sym first) ∙ t.1)

      -- where a checker stands outside the home board, none is borne off
      pub places_outside : (bits : ℕ) → AreLanding m die (25 - die) bits → trailing_zeros w32 m.held ≢ 0 → trailing_zeros w32 m.held < 19 → ArePlaces bits r die
      places_outside bits landing lower outside = record {
        each = λ q within. elim (cases_lt q (25 - die)) [
          | inl far ↦ to_point q within far (no_bar lower (25 - q)) (bit_at bits q) (landing.0 q far)
          | inr near ↦
              let off = landing.1 q near in (
                λ on. absurd (omega arith),
                λ passed. absurd (let both = bears_off q within near (no_bar lower (25 - q)) passed in let home = both.0 in omega arith),
              )
        ];
        only = λ q past. landing.1 q (omega arith);
      }

      -- at home the checkers on the die's point are borne off
      pub places_home : (bits : ℕ) → AreLanding m die (25 - die + 1) bits → 19 ≤ trailing_zeros w32 m.held → trailing_zeros w32 m.held ≤ 25 - die → ArePlaces bits r die
      places_home bits landing home reached = record {
        each = λ q within. elim (cases_lt q (25 - die)) [
          | inl far ↦ to_point q within far (no_bar (omega arith) (25 - q)) (bit_at bits q) (landing.0 q (omega arith))
          | inr near ↦ elim (cases_eq q (25 - die)) [
            | inl exact ↦
                let bit = landing.0 q (omega arith) in
                let free = are.blocked_only (die + q) (omega arith) in
                let one = bit_at-lt m.held q in (
                  λ on. off_bears q within near (no_bar (omega arith) (25 - q)) ((are.held q within).0 (omega arith)) (omega arith) (inl (omega arith)),
                  λ passed. (let on = (are.held q within).1 (held_from_can r (25 - q) die passed) in omega arith),
                )
            | inr other ↦
                let off = landing.1 q (omega arith) in (
                  λ on. absurd (omega arith),
                  λ passed. absurd (let both = bears_off q within near (no_bar (omega arith) (25 - q)) passed in elim both.1 [ inl same ↦ omega arith | inr at_top ↦ omega arith ]),
                )
          ]
        ];
        only = λ q past. landing.1 q (omega arith);
      }
