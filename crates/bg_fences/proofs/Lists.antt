-- What a list of processes has once one of them acted.
use Rattle.std.specs.Prelude.{◌≡◌, ◌⊎◌, ℕ, zero, suc, ◌<◌, List, [], ◌∷◌, ◌++◌, length, Contains, slice_index_or}
use Rattle.std.proofs.Common.{refl, sym, subst, inl, inr, arith}
use Rattle.std.proofs.lemmas.List.Elements.{Contains-append_left, Contains-append_right, Contains-append_cases}
use Rattle.bg_fences.specs.SharedMatches.{Becomes}

pub head_in : {P : Type 0} (p : P) (ps : List P) → Contains (p ∷ ps) p
head_in p ps = (0, omega arith, refl)

pub tail_in : {P : Type 0} (h p : P) (ps : List P) → Contains ps p → Contains (h ∷ ps) p
tail_in h p ps c = (suc c.0, omega (arith, c.1), c.2)

pub none_in : {P : Type 0} (p : P) → Contains [] p → ⊥
none_in p c = omega (arith, c.1)

pub cases_in : {P : Type 0} (h p : P) (ps : List P) → Contains (h ∷ ps) p → (h ≡ p) ⊎ Contains ps p
cases_in {P} h p ps c = by_index c.0 c.1 c.2
  where
    by_index : (k : ℕ) → k < suc (length ps) → slice_index_or (h ∷ ps) k p ≡ p → (h ≡ p) ⊎ Contains ps p
    by_index zero within found = inl found
    by_index (suc k) within found = inr (k, omega arith, found)

pub was_in : {P : Type 0} (olds : List P) (p : P) (after news : List P) → Becomes olds p after news → Contains olds p
was_in {P} olds p after news h =
    subst (λ (l : List P). Contains l p) (sym h.2) (Contains-append_right h.0 (p ∷ h.1) p (head_in p h.1))

-- what holds of each process before, and of those that came, holds of each process
pub each_becomes : {P : Type 0} (Q : P → Type 0) (olds : List P) (p : P) (after news : List P) → Becomes olds p after news
    → ((x : P) → Contains olds x → Q x) → ((x : P) → Contains after x → Q x) → (x : P) → Contains news x → Q x
each_becomes {P} Q olds p after news h all new x c =
    at_place (Contains-append_cases (h.0 ++ after) h.1 x (subst (λ (l : List P). Contains l x) h.3 c))
  where
    old : Contains (h.0 ++ p ∷ h.1) x → Q x
    old k = all x (subst (λ (l : List P). Contains l x) (sym h.2) k)

    at_front : Contains h.0 x ⊎ Contains after x → Q x
    at_front (inl k) = old (Contains-append_left h.0 (p ∷ h.1) x k)
    at_front (inr k) = new x k

    at_place : Contains (h.0 ++ after) x ⊎ Contains h.1 x → Q x
    at_place (inl k) = at_front (Contains-append_cases h.0 after x k)
    at_place (inr k) = old (Contains-append_right h.0 (p ∷ h.1) x (tail_in p x h.1 k))

-- of a single one
pub of_one : {P : Type 0} (Q : P → Type 0) (p : P) → Q p → (x : P) → Contains (p ∷ []) x → Q x
of_one {P} Q p q x c = at_place (cases_in p x [] c)
  where
    at_place : (p ≡ x) ⊎ Contains [] x → Q x
    at_place (inl e) = subst Q e q
    at_place (inr k) = absurd (none_in x k)
