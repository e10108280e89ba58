-- How a match file is told apart from other files.
use Rattle.std.specs.Prelude.{◌≡◌, ◌↔◌, ℕ, ◌<◌, Bool, List, ◌∷◌, Option, None, Some, IsTrue, MatchOption}
use Rattle.std.specs.Option.{is_some}
use Rattle.std.proofs.Common.{subst, inl, inr}
use Rattle.bg_mat.specs.Files.{BeginAsMatchFile, HasCrawford}
use Rattle.bg_mat.specs.Rows.Headings.{IsHeader, IsLengthLine}

-- a line that tells something begins a match file where it is the length of a match
pub length_begins : (line : List ℕ) (lines all : List (List ℕ)) (r : Bool) → all ≡ line ∷ lines → (IsHeader line → ⊥)
    → IsTrue r ↔ ((n : ℕ) × IsLengthLine line n) → IsTrue r ↔ BeginAsMatchFile all
length_begins line lines all r e solid tells = (
  λ is. rw e (inr (solid, tells.0 is)),
  λ begun. tells.1 (of_length line lines solid (subst (λ (t : List (List ℕ)). BeginAsMatchFile t) e begun)),
) where
  of_length : (line : List ℕ) (lines : List (List ℕ)) → (IsHeader line → ⊥) → BeginAsMatchFile (line ∷ lines)
      → (n : ℕ) × IsLengthLine line n
  of_length line lines solid (inl (filler, more)) = absurd (solid filler)
  of_length line lines solid (inr (same, tells)) = tells

-- the same of a match of more than one point
pub long_begins : (line : List ℕ) (lines all : List (List ℕ)) (r : Bool) → all ≡ line ∷ lines → (IsHeader line → ⊥)
    → IsTrue r ↔ ((n : ℕ) × IsLengthLine line n × (1 < n)) → IsTrue r ↔ HasCrawford all
long_begins line lines all r e solid tells = (
  λ is. rw e (inr (solid, tells.0 is)),
  λ begun. tells.1 (of_length line lines solid (subst (λ (t : List (List ℕ)). HasCrawford t) e begun)),
) where
  of_length : (line : List ℕ) (lines : List (List ℕ)) → (IsHeader line → ⊥) → HasCrawford (line ∷ lines)
      → (n : ℕ) × IsLengthLine line n × (1 < n)
  of_length line lines solid (inl (filler, more)) = absurd (solid filler)
  of_length line lines solid (inr (same, tells)) = tells

-- whether there is a number that fits, where one is found
pub found_some : (P : ℕ → Type 0) (found : Option ℕ) (r : Bool) → r ≡ is_some found
    → MatchOption found ((n : ℕ) → P n → ⊥) P → IsTrue r ↔ ((n : ℕ) × P n)
found_some P None r e none = (λ is. absurd (cc (e, is)), λ some. absurd (none some.0 some.1))
found_some P (Some n) r e fits = (λ is. (n, fits), λ some. rw e search)
