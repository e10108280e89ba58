-- Texts that grow part by part.
use Rattle.std.proofs.Common.{◌≡◌, ℕ, List, ◌++◌, append_assoc}

-- three parts, one after the other
pub three_parts : (a b c : List ℕ) (o p q r : List ℕ) → p ≡ o ++ a → q ≡ p ++ b → r ≡ q ++ c → r ≡ o ++ (a ++ b ++ c)
three_parts a b c o p q r h1 h2 h3 = rw (h3, h2, h1) (simp append_assoc)

pub four_parts : (a b c d : List ℕ) (o p q r s : List ℕ) → p ≡ o ++ a → q ≡ p ++ b → r ≡ q ++ c → s ≡ r ++ d
    → s ≡ o ++ (a ++ b ++ c ++ d)
four_parts a b c d o p q r s h1 h2 h3 h4 = rw (h4, h3, h2, h1) (simp append_assoc)

pub five_parts : (a b c d e : List ℕ) (o p q r s t : List ℕ) → p ≡ o ++ a → q ≡ p ++ b → r ≡ q ++ c → s ≡ r ++ d → t ≡ s ++ e
    → t ≡ o ++ (a ++ b ++ c ++ d ++ e)
five_parts a b c d e o p q r s t h1 h2 h3 h4 h5 = rw (h5, h4, h3, h2, h1) (simp append_assoc)
