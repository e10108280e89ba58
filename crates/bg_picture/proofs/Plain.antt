-- What escaped texts have.
use Rattle.std.proofs.Common.{◌≡◌, ◌≢◌, ℕ, List, [], ◌∷◌, ◌++◌, Bool, true, false, cond, nat_lt, ◌==◌, map, refl, ◌∙◌, ap, arith, inl, inr}
use Rattle.std.specs.List.{AllByRecursion, flat_map, list_all}
use Rattle.std.proofs.lemmas.Bool.{cases_eq, ne_eqb}
use Rattle.std.proofs.lemmas.List.Folds.{list_all-append}
use Rattle.bg_picture.specs.Escapes.{escaped, escaped_byte}
use Rattle.bg_picture.specs.Laws.{IsPart, is_plain_byte}

other_plain : (b : ℕ) (low : Bool) → (b == 34) ≡ false → (b == 39) ≡ false → (b == 60) ≡ false → (b == 62) ≡ false
    → list_all is_plain_byte (cond low (32 ∷ []) (b ∷ [])) ≡ true
other_plain b true h34 h39 h60 h62 = refl
other_plain b false h34 h39 h60 h62 = rw (h34, h39, h60, h62) refl

pub byte_plain : (b : ℕ) → list_all is_plain_byte (escaped_byte b) ≡ true
unfolding escaped_byte
byte_plain b = elim (cases_eq b 38) [
  | inl e ↦ rw e refl
  | inr n38 ↦ elim (cases_eq b 60) [
    | inl e ↦ rw e refl
    | inr n60 ↦ elim (cases_eq b 62) [
      | inl e ↦ rw e refl
      | inr n62 ↦ elim (cases_eq b 34) [
        | inl e ↦ rw e refl
        | inr n34 ↦ elim (cases_eq b 39) [
          | inl e ↦ rw e refl
          | inr n39 ↦ rw (ne_eqb b 38 n38, ne_eqb b 60 n60, ne_eqb b 62 n62, ne_eqb b 34 n34, ne_eqb b 39 n39)
              (other_plain b (nat_lt b 32) (ne_eqb b 34 n34) (ne_eqb b 39 n39) (ne_eqb b 60 n60) (ne_eqb b 62 n62))
        ]
      ]
    ]
  ]
]

pub text_plain : (text : List ℕ) → list_all is_plain_byte (escaped text) ≡ true
unfolding escaped
text_plain [] = refl
text_plain (b ∷ text) =
    list_all-append is_plain_byte (escaped_byte b) (flat_map escaped_byte text) ∙ rw (byte_plain b, text_plain text) refl

other_part : (b : ℕ) (low : Bool) → b ≢ 38 → IsPart (cond low (32 ∷ []) (b ∷ []))
other_part b true n = inr (32, refl, λ e. omega (arith, e))
other_part b false n = inr (b, refl, n)

pub byte_part : (b : ℕ) → IsPart (escaped_byte b)
unfolding escaped_byte
byte_part b = elim (cases_eq b 38) [
  | inl e ↦ rw e (inl (0, omega arith, refl))
  | inr n38 ↦ elim (cases_eq b 60) [
    | inl e ↦ rw e (inl (1, omega arith, refl))
    | inr n60 ↦ elim (cases_eq b 62) [
      | inl e ↦ rw e (inl (2, omega arith, refl))
      | inr n62 ↦ elim (cases_eq b 34) [
        | inl e ↦ rw e (inl (3, omega arith, refl))
        | inr n34 ↦ elim (cases_eq b 39) [
          | inl e ↦ rw e (inl (4, omega arith, refl))
          | inr n39 ↦ rw (ne_eqb b 38 n38, ne_eqb b 60 n60, ne_eqb b 62 n62, ne_eqb b 34 n34, ne_eqb b 39 n39)
              (other_part b (nat_lt b 32) n38)
        ]
      ]
    ]
  ]
]

pub text_parts : (text : List ℕ) → (escaped text ≡ flat_map (λ part. part) (map escaped_byte text))
    × AllByRecursion IsPart (map escaped_byte text)
unfolding escaped
text_parts [] = (refl, tt)
text_parts (b ∷ text) =
    let rest = text_parts text in
    (ap (λ l. escaped_byte b ++ l) rest.0, (byte_part b, rest.1))
