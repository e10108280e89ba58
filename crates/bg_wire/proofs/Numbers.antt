-- Entries under their numbers.
use Rattle.std.proofs.Common.{◌≡◌, ℕ, zero, suc, ◌+◌, ◌<◌, ◌≤◌, ◌⊎◌, inl, inr, List, [], ◌∷◌, ◌++◌, Some, length, take, slice_get, refl, sym, ◌∙◌, ap, subst, arith}
use Rattle.std.proofs.lemmas.Option.{same_Some}
use Rattle.bg_match.specs.declared.entries.Entry.{Entry}
use Rattle.std.specs.List.{AllByRecursion}
use Rattle.bg_match.specs.Terms.{Terms}
use Rattle.bg_match.specs.Entry.{IsEntry}
use Rattle.bg_match.specs.Match.{at_number, IsLegalRecord}
use Rattle.bg_match.proofs.Legal.{entries_in_range}
use Rattle.bg_wire.specs.Runs.{IsRun}
use Rattle.bg_wire.proofs.OfSaves.SavedEntries.{entry_in_range}

-- an entry of a list that grew by one is an entry of the list, or the new one
pub get_push : (xs : List Entry) (x : Entry) (i : ℕ) (e : Entry) → slice_get (xs ++ x ∷ []) i ≡ Some e
    → (slice_get xs i ≡ Some e) ⊎ ((i ≡ length xs) × (e ≡ x))
get_push [] x zero e h = inr (refl, sym (same_Some x e h))
get_push [] x (suc i) e h = cc
get_push (y ∷ ys) x zero e h = inl h
get_push (y ∷ ys) x (suc i) e h =
    elim (get_push ys x i e h) [ inl p ↦ inl p | inr p ↦ inr (ap suc p.0, p.1) ]

-- a run goes on with the entry of the next number
pub IsRun-push : (entries : List Entry) (start : ℕ) (list : List Entry) (e : Entry) → IsRun entries start list
    → at_number entries (start + length list) ≡ Some e → IsRun entries start (list ++ e ∷ [])
IsRun-push entries start list e h next i f at =
    elim (get_push list e i f at) [
      | inl p ↦ h i f p
      | inr p ↦ subst (λ (n : ℕ). at_number entries (start + n) ≡ Some f) (sym p.0) (next ∙ ap Some (sym p.1))
    ]

pub get_take : (n : ℕ) (xs : List Entry) (i : ℕ) → i < n → slice_get (take n xs) i ≡ slice_get xs i
get_take zero xs i h = absurd (omega arith)
get_take (suc n) [] i h = refl
get_take (suc n) (x ∷ xs) zero h = refl
get_take (suc n) (x ∷ xs) (suc i) h = get_take n xs i (omega arith)

-- the first n entries have the entries of the numbers up to n
pub at_number-take : (n : ℕ) (xs : List Entry) (number : ℕ) → number ≤ n → at_number (take n xs) number ≡ at_number xs number
at_number-take n xs zero h = refl
at_number-take n xs (suc i) h = get_take n xs i (omega arith)

pub get_some : (xs : List Entry) (i : ℕ) → i < length xs → (e : Entry) × (slice_get xs i ≡ Some e)
get_some [] i h = absurd (omega arith)
get_some (x ∷ xs) zero h = (x, refl)
get_some (x ∷ xs) (suc i) h = get_some xs i (omega arith)

-- there is an entry of every number up to the length
pub at_number-some : (xs : List Entry) (number : ℕ) → 1 ≤ number → number ≤ length xs → (e : Entry) × (at_number xs number ≡ Some e)
at_number-some xs zero low high = absurd (omega arith)
at_number-some xs (suc i) low high = get_some xs i (omega arith)

-- a run of saved entries goes on with the saved entry of the next number
pub run_on : (entries : List Entry) (saved start index : ℕ) (list : List Entry) (e : Entry) → length list ≡ index
    → start + index ≤ saved → IsRun (take saved entries) start list → at_number entries (start + index) ≡ Some e
    → IsRun (take saved entries) start (list ++ e ∷ [])
run_on entries saved start index list e many within run next =
    let at : at_number (take saved entries) (start + length list) ≡ Some e =
    rw many (at_number-take saved entries (start + index) within ∙ next) in
    IsRun-push (take saved entries) start list e run at

pub get_taken : (n : ℕ) (xs : List Entry) (i : ℕ) (e : Entry) → slice_get (take n xs) i ≡ Some e → slice_get xs i ≡ Some e
get_taken zero xs i e h = cc
get_taken (suc n) [] i e h = cc
get_taken (suc n) (x ∷ xs) zero e h = h
get_taken (suc n) (x ∷ xs) (suc i) e h = get_taken n xs i e h

numbered_in_range : (n : ℕ) (xs : List Entry) (number : ℕ) (e : Entry) → AllByRecursion IsEntry xs
    → at_number (take n xs) number ≡ Some e → IsEntry e
numbered_in_range n xs zero e h at = cc
numbered_in_range n xs (suc i) e h at = entry_in_range xs i e h (get_taken n xs i e at)

each_in_range : (list : List Entry) → ((i : ℕ) (e : Entry) → slice_get list i ≡ Some e → IsEntry e) → AllByRecursion IsEntry list
each_in_range [] h = tt
each_in_range (x ∷ xs) h = (h 0 x refl, each_in_range xs (λ i e. h (suc i) e))

-- the numbers of the entries of a run are in their ranges, since a legal record's are
pub run_in_range : (terms : Terms) (entries : List Entry) (saved start : ℕ) (list : List Entry)
    → IsLegalRecord terms entries → IsRun (take saved entries) start list → AllByRecursion IsEntry list
run_in_range terms entries saved start list legal run =
    each_in_range list (λ i e at. numbered_in_range saved entries (start + i) e (entries_in_range terms entries legal) (run i e at))
