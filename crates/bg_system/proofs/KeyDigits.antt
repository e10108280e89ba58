-- Keys in hexadecimal digits.
use Rattle.std.proofs.Common.{◌≡◌, ◌∙◌, ℕ, Bool, true, false, List, [], ◌∷◌, ◌++◌, IfSome, ap, refl}
use Rattle.std.specs.Bool.{then_some}
use Rattle.hex.specs.Hex.{encode_lower}

-- a text of digits and a line feed is that of the key whose digits these are
pub only : (text digits key : List ℕ) (is : Bool) → text ≡ digits ++ 10 ∷ [] → (is ≡ true → digits ≡ encode_lower key)
    → IfSome (then_some is key) (λ k. text ≡ encode_lower k ++ 10 ∷ [])
only text digits key true ends same = ends ∙ ap (λ (d : List ℕ). d ++ 10 ∷ []) (same refl)
only text digits key false ends same = tt
