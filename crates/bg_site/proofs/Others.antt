-- One place changes, and the others stay.
use Rattle.std.proofs.Common.{◌≡◌, ◌≢◌, ℕ, zero, suc, List, [], ◌∷◌, refl, ap}
use Rattle.std.specs.List.{slice_get, slice_set}

pub other_stays : {X : Type 0} (xs : List X) (i j : ℕ) (x : X) → j ≢ i → slice_get (slice_set xs i x) j ≡ slice_get xs j
other_stays [] zero j x other = refl
other_stays [] (suc i) j x other = refl
other_stays (y ∷ xs) zero zero x other = absurd (other refl)
other_stays (y ∷ xs) zero (suc j) x other = refl
other_stays (y ∷ xs) (suc i) zero x other = refl
other_stays (y ∷ xs) (suc i) (suc j) x other = other_stays xs i j x (λ same. other (ap suc same))
