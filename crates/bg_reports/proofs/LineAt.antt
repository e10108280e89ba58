-- A line by its index.
use native.Mathlib.Numerals.{unary_clauses}
use Rattle.std.proofs.Common.{◌≡◌, ℕ, zero, suc, ◌+◌, ◌≤◌, List, [], ◌∷◌, drop, slice_index_or, refl, arith}

module _ {X : Type 0} (other : X) where
  -- the first of those behind n
  pub first_behind : (xs : List X) (n : ℕ) → slice_index_or xs n other ≡ slice_index_or (drop n xs) 0 other
  first_behind [] zero = refl
  first_behind [] (suc n) = refl
  first_behind (x ∷ xs) zero = refl
  first_behind (x ∷ xs) (suc n) = first_behind xs n

  -- those behind the first that is left
  pub next_behind : (xs : List X) (n : ℕ) (x : X) (ys : List X) → drop n xs ≡ x ∷ ys → drop (n + 1) xs ≡ ys
  next_behind [] zero x ys is = cc
  next_behind [] (suc n) x ys is = cc
  next_behind (z ∷ zs) zero x ys is = cc
  next_behind (z ∷ zs) (suc n) x ys is = simp unary_clauses (simp unary_clauses at (next_behind zs n x ys is))

  -- where there is none behind n, there is none at a later index
  pub none_behind : (xs : List X) (n m : ℕ) → drop n xs ≡ [] → n ≤ m → slice_index_or xs m other ≡ other
  none_behind [] n zero none low = refl
  none_behind [] n (suc m) none low = refl
  none_behind (x ∷ xs) zero m none low = cc
  none_behind (x ∷ xs) (suc n) zero none low = absurd (omega (arith, low))
  none_behind (x ∷ xs) (suc n) (suc m) none low = none_behind xs n m none (omega (arith, low))
