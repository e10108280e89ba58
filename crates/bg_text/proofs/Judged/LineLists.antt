-- Texts that grow line by line.
use Rattle.std.proofs.Common.{◌≡◌, ℕ, List, [], ◌∷◌, ◌++◌, append_assoc, append-nil}
use Rattle.bg_text.specs.Boards.BoardText.{line_text, lines_text}

-- seven lines, one after the other
pub seven_lines : (a b c d e f g : List ℕ) (o p q r s t u v : List ℕ) → o ≡ [] → p ≡ o ++ line_text a → q ≡ p ++ line_text b → r ≡ q ++ line_text c → s ≡ r ++ line_text d → t ≡ s ++ line_text e → u ≡ t ++ line_text f → v ≡ u ++ line_text g
    → v ≡ lines_text (a ∷ b ∷ c ∷ d ∷ e ∷ f ∷ g ∷ [])
seven_lines a b c d e f g o p q r s t u v h0 h1 h2 h3 h4 h5 h6 h7 = rw (h7, h6, h5, h4, h3, h2, h1, h0) (simp (append_assoc, append-nil))

-- a line of four parts
pub four_parts : (a b c d : List ℕ) (o p q r s t : List ℕ) → p ≡ o ++ a → q ≡ p ++ b → r ≡ q ++ c → s ≡ r ++ d → t ≡ s ++ 10 ∷ [] → t ≡ o ++ line_text (a ++ b ++ c ++ d)
four_parts a b c d o p q r s t h1 h2 h3 h4 h5 = rw (h5, h4, h3, h2, h1) (simp append_assoc)
