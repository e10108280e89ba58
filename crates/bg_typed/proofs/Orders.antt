-- No turn is greater than itself, or than one that is greater.
use Rattle.std.specs.Prelude.{◌≡◌, ◌⊎◌, List, [], ◌∷◌}
use Rattle.std.proofs.Common.{sym, ap, inl, inr, arith}
use Rattle.bg_board.specs.FromTo.{FromTo}
use Rattle.bg_turns.specs.TurnOrder.{IsGreater, IsHigher}

higher : (a b : FromTo) → IsHigher a b → IsHigher b a → ⊥
higher a b (inl h) (inl k) = omega arith
higher a b (inl h) (inr k) = let e = k.0 in omega (arith, e)
higher a b (inr h) (inl k) = let e = h.0 in omega (arith, e)
higher a b (inr h) (inr k) = let l = h.1 in let m = k.1 in omega (arith, l, m)

itself : (a b : FromTo) → a ≡ b → IsHigher a b → ⊥
itself a b e (inl h) = let same : a.from ≡ b.from = ap (λ (s : FromTo). s.from) e in omega (arith, same)
itself a b e (inr h) = let same : a.to ≡ b.to = ap (λ (s : FromTo). s.to) e in let l = h.1 in omega (arith, same, l)

pub not_both : (xs ys : List FromTo) → IsGreater xs ys → IsGreater ys xs → ⊥
not_both [] ys h k = h
not_both (a ∷ xs) [] h k = k
not_both (a ∷ xs) (b ∷ ys) (inl h) (inl k) = higher a b h k
not_both (a ∷ xs) (b ∷ ys) (inl h) (inr k) = itself a b (sym k.0) h
not_both (a ∷ xs) (b ∷ ys) (inr h) (inl k) = itself b a (sym h.0) k
not_both (a ∷ xs) (b ∷ ys) (inr h) (inr k) = not_both xs ys h.1 k.1

-- two turns, neither of which is less
pub neither_less : (xs ys : List FromTo) → (ys ≡ xs) ⊎ IsGreater xs ys → (xs ≡ ys) ⊎ IsGreater ys xs → ys ≡ xs
neither_less xs ys (inl e) k = e
neither_less xs ys (inr h) (inl e) = sym e
neither_less xs ys (inr h) (inr k) = absurd (not_both xs ys h k)
