-- Texts that grow part by part.
use Rattle.std.proofs.Common.{◌≡◌, ℕ, List, [], ◌++◌, append_assoc, ◌∙◌, ap, subst, sym}
use Rattle.bg_table.specs.Grown.{Adds}

-- two parts, one after the other
pub two_parts : (a b : List ℕ) (o p q : List ℕ) → p ≡ o ++ a → q ≡ p ++ b → q ≡ o ++ (a ++ b)
two_parts a b o p q h1 h2 = rw (h2, h1) (simp append_assoc)

-- three parts
pub three_parts : (a b c : List ℕ) (o p q r : List ℕ) → p ≡ o ++ a → q ≡ p ++ b → r ≡ q ++ c → r ≡ o ++ (a ++ b ++ c)
three_parts a b c o p q r h1 h2 h3 = rw (h3, h2, h1) (simp append_assoc)

-- four parts
pub four_parts : (a b c d : List ℕ) (o p q r s : List ℕ) → p ≡ o ++ a → q ≡ p ++ b → r ≡ q ++ c → s ≡ r ++ d
    → s ≡ o ++ (a ++ b ++ c ++ d)
four_parts a b c d o p q r s h1 h2 h3 h4 = rw (h4, h3, h2, h1) (simp append_assoc)

-- what is added to no text is the text
pub adds_alone : (P : List ℕ → Type 0) (old new : List ℕ) → old ≡ [] → Adds P old new → P new
adds_alone P old new none added =
    let same : new ≡ added.0 = added.2 ∙ ap (λ (xs : List ℕ). xs ++ added.0) none in
    subst P (sym same) added.1
