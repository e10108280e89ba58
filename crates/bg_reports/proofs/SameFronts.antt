-- The fronts of lists that agree so far.
use Rattle.std.proofs.Common.{◌≡◌, ℕ, zero, suc, List, [], ◌∷◌, take, slice_get, refl}

-- where the fronts are the same, and the elements behind them, so are the fronts with these
pub same_more : {X : Type 0} (xs ys : List X) (n : ℕ) → slice_get xs n ≡ slice_get ys n → take n xs ≡ take n ys
    → take (suc n) xs ≡ take (suc n) ys
same_more [] [] n same before = refl
same_more [] (y ∷ ys) zero same before = cc
same_more [] (y ∷ ys) (suc n) same before = cc
same_more (x ∷ xs) [] zero same before = cc
same_more (x ∷ xs) [] (suc n) same before = cc
same_more (x ∷ xs) (y ∷ ys) zero same before = cc
same_more (x ∷ xs) (y ∷ ys) (suc n) same before =
    let rest : take n xs ≡ take n ys = cc before in
    let more = same_more xs ys n same rest in cc (before, more)
