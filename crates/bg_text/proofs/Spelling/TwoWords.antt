-- What two words say together.
use Rattle.std.specs.Prelude.{◌≡◌, ℕ, List, Result, Ok, Err}
use Rattle.bg_text.specs.Entries.Pairs.{Says, both_of}
use Rattle.bg_text.specs.declared.faults.TextFault.{TextFault}
use Rattle.bg_text.specs.declared.faults.TextFault.TheVariants.{NotALine, BadNumber, TooManySteps}

module _ (S T : List ℕ → Type 0) (P Q : ℕ → Type 0) (text other : ℕ → List ℕ) where
  abbrev pub BothSay : List ℕ → List ℕ → Result (ℕ × ℕ) TextFault → Type 0
  BothSay first second (Ok p) = P p.0 × Q p.1 × (first ≡ text p.0) × (second ≡ other p.1)
  BothSay first second (Err NotALine) = S first → T second → ⊥
  BothSay first second (Err BadNumber) =
      S first × T second × ((x y : ℕ) → P x → Q y → first ≡ text x → second ≡ other y → ⊥)
  BothSay first second (Err TooManySteps) = ⊥

  pub both_say : ((x : ℕ) → P x → S (text x)) → ((y : ℕ) → Q y → T (other y)) → (first second : List ℕ) (a b : Result ℕ TextFault) → Says S P text first a → Says T Q other second b → BothSay first second (both_of a b)
  both_say left right first second (Err NotALine) b h k = λ s t. h s
  both_say left right first second (Err BadNumber) (Err NotALine) h k = λ s t. k t
  both_say left right first second (Err BadNumber) (Err BadNumber) h k = (h.0, k.0, λ x y p q e f. h.1 x p e)
  both_say left right first second (Err BadNumber) (Err TooManySteps) h k = absurd k
  both_say left right first second (Err BadNumber) (Ok y) h k = (h.0, rw k.1 (right y k.0), λ x z p q e f. h.1 x p e)
  both_say left right first second (Err TooManySteps) b h k = absurd h
  both_say left right first second (Ok x) (Err NotALine) h k = λ s t. k t
  both_say left right first second (Ok x) (Err BadNumber) h k = (rw h.1 (left x h.0), k.0, λ z y p q e f. k.1 y q f)
  both_say left right first second (Ok x) (Err TooManySteps) h k = absurd k
  both_say left right first second (Ok x) (Ok y) h k = (h.0, k.0, h.1, k.1)
