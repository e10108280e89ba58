-- Texts in parts, one behind the other.
use Rattle.std.specs.Prelude.{◌≡◌, ℕ, ◌+◌, zero, suc, List, [], ◌∷◌, ◌++◌, replicate, Result, Ok, Err, OnOk}
use Rattle.std.proofs.Common.{add-one, append_assoc, refl, sym, ◌∙◌, ap}

pub two_parts : {A E : Type 0} (r : Result A E) (a b x y z : List ℕ) → y ≡ x ++ a → OnOk r (z ≡ y ++ b)
    → OnOk r (z ≡ x ++ (a ++ b))
two_parts (Ok v) a b x y z e h = h ∙ (ap (λ (t : List ℕ). t ++ b) e ∙ append_assoc x a b)
two_parts (Err v) a b x y z e h = h

replicate-suc : (n b : ℕ) → replicate (suc n) b ≡ replicate n b ++ b ∷ []
replicate-suc zero b = refl
replicate-suc (suc n) b = ap (λ (t : List ℕ). b ∷ t) (replicate-suc n b)

replicate-more : (n b : ℕ) → replicate (n + 1) b ≡ replicate n b ++ b ∷ []
replicate-more n b = rw add-one (replicate-suc n b)

-- one more blank
pub blank_more : (n : ℕ) (old now new : List ℕ) → now ≡ old ++ replicate n 32 → new ≡ now ++ 32 ∷ []
    → new ≡ old ++ replicate (n + 1) 32
blank_more n old now new e h =
    h ∙ (ap (λ (t : List ℕ). t ++ 32 ∷ []) e ∙ (append_assoc old (replicate n 32) (32 ∷ [])
    ∙ ap (λ (t : List ℕ). old ++ t) (sym (replicate-more n 32))))
