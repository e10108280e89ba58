-- A line that is no row is none for one fault.
use Rattle.std.specs.Prelude.{◌≡◌, ◌⊎◌, ℕ, List}
use Rattle.std.proofs.Common.{refl, sym, ◌∙◌, subst, inl, inr}
use Rattle.bg_mat.specs.Rows.RowFaults.{IsBeaver, IsCellPlace, IsPlaceFault, IsRowPlace, IsTooLong, RowFaultsDiffer}
use Rattle.bg_mat.specs.declared.faults.MatFault.{MatFault}
use Rattle.bg_mat.specs.declared.faults.MatFault.TheVariants as why
use Rattle.bg_mat.proofs.OfReading.CellLemmas.{cell_same}
use Rattle.bg_mat.proofs.OfReading.RowLemmas.{beaver_no_dice, beaver_none, long_none, skip_same}

not_both : (text : List ℕ) → IsBeaver text → IsTooLong text → ⊥
not_both text beaver (after, dice, is, many) = beaver_no_dice text dice after beaver is

places_apart : (cells t u : List ℕ) → IsCellPlace cells t → IsCellPlace cells u → IsBeaver t → IsTooLong u → ⊥
places_apart cells t u (inl e) (inl f) b l = not_both cells (subst IsBeaver e b) (subst IsTooLong f l)
places_apart cells t u (inl e) (inr (few, (c, tells))) b l = beaver_none cells c u (subst IsBeaver e b) tells
places_apart cells t u (inr (few, (c, tells))) (inl f) b l = long_none cells c t (subst IsTooLong f l) tells
places_apart cells t u (inr (few, (c, tells))) (inr (low, (d, told))) b l =
    not_both t b (subst IsTooLong (cell_same cells d c u t told tells).1 l)

rows_apart : (line t u : List ℕ) → IsRowPlace line t → IsRowPlace line u → IsBeaver t → IsTooLong u → ⊥
rows_apart line t u (cells, skips, place) (others, skip, at) b l =
    places_apart cells t u place
    (subst (λ (c : List ℕ). IsCellPlace c u) (skip_same line others cells skip skips) at) b l

one_of_three : (P : List ℕ → Type 0) (fault : MatFault) → IsPlaceFault P fault
    → (fault ≡ why.NotALine) ⊎ ((fault ≡ why.Beaver) ⊎ (fault ≡ why.TooManySteps))
one_of_three P why.NotALine h = inl refl
one_of_three P why.Beaver h = inr (inl refl)
one_of_three P why.TooManySteps h = inr (inr refl)
one_of_three P why.NoLength h = absurd h
one_of_three P why.NoCrawford h = absurd h
one_of_three P why.Money h = absurd h
one_of_three P why.LengthOutOfRange h = absurd h
one_of_three P why.WrongGame h = absurd h
one_of_three P why.WrongScores h = absurd h
one_of_three P why.GameGoesOn h = absurd h
one_of_three P why.GameOver h = absurd h
one_of_three P why.OutOfTurn h = absurd h
one_of_three P why.ResignsOutOfTurn h = absurd h
one_of_three P why.UnknownTurn h = absurd h
one_of_three P why.NoSuchTurn h = absurd h
one_of_three P why.WrongHits h = absurd h
one_of_three P why.WrongCube h = absurd h
one_of_three P why.WrongPoints h = absurd h
one_of_three P why.MatchGoesOn h = absurd h
one_of_three P (why.Entry e) h = absurd h

no_beaver : (line : List ℕ) (a b : MatFault) → a ≡ why.NotALine → b ≡ why.Beaver → IsPlaceFault (IsRowPlace line) a
    → IsPlaceFault (IsRowPlace line) b → ⊥
no_beaver line a b e f h k =
    at (subst (IsPlaceFault (IsRowPlace line)) e h) (subst (IsPlaceFault (IsRowPlace line)) f k) where
      at : IsPlaceFault (IsRowPlace line) why.NotALine → IsPlaceFault (IsRowPlace line) why.Beaver → ⊥
      at none (t, place, beaver) = (none t place).0 beaver

no_long : (line : List ℕ) (a b : MatFault) → a ≡ why.NotALine → b ≡ why.TooManySteps → IsPlaceFault (IsRowPlace line) a
    → IsPlaceFault (IsRowPlace line) b → ⊥
no_long line a b e f h k =
    at (subst (IsPlaceFault (IsRowPlace line)) e h) (subst (IsPlaceFault (IsRowPlace line)) f k) where
      at : IsPlaceFault (IsRowPlace line) why.NotALine → IsPlaceFault (IsRowPlace line) why.TooManySteps → ⊥
      at none (t, place, long) = (none t place).1 long

beaver_or_long : (line : List ℕ) (a b : MatFault) → a ≡ why.Beaver → b ≡ why.TooManySteps → IsPlaceFault (IsRowPlace line) a
    → IsPlaceFault (IsRowPlace line) b → ⊥
beaver_or_long line a b e f h k =
    at (subst (IsPlaceFault (IsRowPlace line)) e h) (subst (IsPlaceFault (IsRowPlace line)) f k) where
      at : IsPlaceFault (IsRowPlace line) why.Beaver → IsPlaceFault (IsRowPlace line) why.TooManySteps → ⊥
      at (t, place, beaver) (u, there, long) = rows_apart line t u place there beaver long

one_fault : (line : List ℕ) (a b : MatFault) → IsPlaceFault (IsRowPlace line) a → IsPlaceFault (IsRowPlace line) b
    → (a ≡ why.NotALine) ⊎ ((a ≡ why.Beaver) ⊎ (a ≡ why.TooManySteps))
    → (b ≡ why.NotALine) ⊎ ((b ≡ why.Beaver) ⊎ (b ≡ why.TooManySteps)) → a ≡ b
one_fault line a b h k (inl e) (inl f) = e ∙ sym f
one_fault line a b h k (inr (inl e)) (inr (inl f)) = e ∙ sym f
one_fault line a b h k (inr (inr e)) (inr (inr f)) = e ∙ sym f
one_fault line a b h k (inl e) (inr (inl f)) = absurd (no_beaver line a b e f h k)
one_fault line a b h k (inr (inl e)) (inl f) = absurd (no_beaver line b a f e k h)
one_fault line a b h k (inl e) (inr (inr f)) = absurd (no_long line a b e f h k)
one_fault line a b h k (inr (inr e)) (inl f) = absurd (no_long line b a f e k h)
one_fault line a b h k (inr (inl e)) (inr (inr f)) = absurd (beaver_or_long line a b e f h k)
one_fault line a b h k (inr (inr e)) (inr (inl f)) = absurd (beaver_or_long line b a f e k h)

pub faults_apart : RowFaultsDiffer
faults_apart line fault other h k =
    one_fault line fault other h.1 k.1 (one_of_three (IsRowPlace line) fault h.1) (one_of_three (IsRowPlace line) other k.1)
