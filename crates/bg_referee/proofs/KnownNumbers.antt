-- The numbers that are known, place by place.
use Rattle.std.proofs.Common.{◌≡◌, ℕ, zero, suc, ◌<◌, Bool, true, false, Option, Some, None, List, [], ◌∷◌, length, if◌then◌else◌, refl, ap, arith}
use Rattle.std.proofs.lemmas.Bool.{false≢true}
use Rattle.std.specs.Prelude.{slice_index_or, slice_set}
use Rattle.bg_referee.specs.KnownNumbers.{known_numbers}
use Rattle.bg_referee.specs.Sessions.{SessionsView, tell}

-- a number is noted
pub known_set : (flags : List Bool) (numbers : List ℕ) (place number : ℕ) → known_numbers (slice_set flags place true) (slice_set numbers place number) ≡ slice_set (known_numbers flags numbers) place (Some number)
known_set [] numbers place number = refl
known_set (known ∷ flags) [] zero number = refl
known_set (known ∷ flags) [] (suc place) number = refl
known_set (known ∷ flags) (n ∷ numbers) zero number = refl
known_set (known ∷ flags) (n ∷ numbers) (suc place) number = ap (λ (l : List (Option ℕ)). (if known then Some n else None) ∷ l) (known_set flags numbers place number)

-- the same of the whole
abbrev with_told : ℕ → List (Option ℕ) → SessionsView
with_told cursor told = record { told = told; cursor = cursor }

pub tells : (flags : List Bool) (numbers : List ℕ) (cursor party number : ℕ)
    → record { told = known_numbers (slice_set flags party true) (slice_set numbers party number); cursor = cursor } ≡ tell (with_told cursor (known_numbers flags numbers)) party number
tells flags numbers cursor party number = ap (with_told cursor) (known_set flags numbers party number)

-- a number is looked up
pub known_at : (flags : List Bool) (numbers : List ℕ) (place : ℕ) → place < length numbers → slice_index_or flags place false ≡ true → Some (slice_index_or numbers place 0) ≡ slice_index_or (known_numbers flags numbers) place None
known_at [] numbers place h known_there = absurd (false≢true known_there)
known_at (known ∷ flags) [] place h known_there = absurd (omega arith)
known_at (known ∷ flags) (n ∷ numbers) zero h known_there = rw known_there refl
known_at (known ∷ flags) (n ∷ numbers) (suc place) h known_there = known_at flags numbers place (omega arith) known_there

pub unknown_at : (flags : List Bool) (numbers : List ℕ) (place : ℕ) → slice_index_or flags place false ≡ false → None ≡ slice_index_or (known_numbers flags numbers) place None
unknown_at [] numbers place h = refl
unknown_at (known ∷ flags) [] place h = refl
unknown_at (known ∷ flags) (n ∷ numbers) zero h = rw h refl
unknown_at (known ∷ flags) (n ∷ numbers) (suc place) h = unknown_at flags numbers place h
