-- Prefixes of lists, and what stands under a number.
use Rattle.std.specs.Prelude.{◌≡◌, ℕ, zero, suc, ◌<◌, ◌≤◌, ◌+◌, Some, List, [], ◌∷◌, ◌++◌, ◌⊎◌, length, take, drop, slice_get, slice_set}
use Rattle.std.proofs.Common.{refl, sym, ◌∙◌, ap, subst, inl, inr, arith, append_assoc, length-append}
use Rattle.std.proofs.lemmas.List.{append-nil, take-append-drop, take-append-le, take_all}
use Rattle.std.proofs.lemmas.Option.{same_Some}
use Rattle.bg_match.specs.declared.entries.Entry.{Entry}
use Rattle.bg_match.specs.Match.{at_number}
use Rattle.bg_wire.specs.Runs.{IsRun}
use Rattle.bg_protocol.specs.Promises.Agreement.{IsPrefix}

pub prefix_same : (xs : List Entry) → IsPrefix xs xs
prefix_same xs = ([], append-nil xs)

pub prefix_none : (xs : List Entry) → IsPrefix [] xs
prefix_none xs = (xs, refl)

pub prefix_take : (n : ℕ) (xs : List Entry) → IsPrefix (take n xs) xs
prefix_take n xs = (drop n xs, take-append-drop n xs)

pub prefix_trans : (xs ys zs : List Entry) → IsPrefix xs ys → IsPrefix ys zs → IsPrefix xs zs
prefix_trans xs ys zs p q = (p.0 ++ q.0, sym (append_assoc xs p.0 q.0) ∙ ap (λ (l : List Entry). l ++ q.0) p.1 ∙ q.1)

pub prefix_tail : (x y : Entry) (xs ys : List Entry) → IsPrefix (x ∷ xs) (y ∷ ys) → (x ≡ y) × IsPrefix xs ys
prefix_tail x y xs ys p = let h = p.1 in (cc, (p.0, cc))

pub prefix_length : (xs ys : List Entry) → IsPrefix xs ys → length xs ≤ length ys
prefix_length xs ys p = omega (arith, length-append xs p.0, ap length p.1)

-- an entry of a prefix is one of the whole
pub prefix_get : (xs ys : List Entry) (i : ℕ) (e : Entry) → IsPrefix xs ys → slice_get xs i ≡ Some e → slice_get ys i ≡ Some e
prefix_get [] ys i e p h = cc
prefix_get (x ∷ xs) [] i e p h = let k = p.1 in cc
prefix_get (x ∷ xs) (y ∷ ys) zero e p h = let k = (prefix_tail x y xs ys p).0 in cc
prefix_get (x ∷ xs) (y ∷ ys) (suc i) e p h = prefix_get xs ys i e (prefix_tail x y xs ys p).1 h

pub prefix_at : (xs ys : List Entry) (n : ℕ) (e : Entry) → IsPrefix xs ys → at_number xs n ≡ Some e → at_number ys n ≡ Some e
prefix_at xs ys zero e p h = h
prefix_at xs ys (suc i) e p h = prefix_get xs ys i e p h

pub prefix_run : (xs ys : List Entry) (start : ℕ) (list : List Entry) → IsPrefix xs ys → IsRun xs start list → IsRun ys start list
prefix_run xs ys start list p h i e g = prefix_at xs ys (start + i) e p (h i e g)

-- before one of its entries, a prefix is as the whole
pub prefix_before : (xs ys : List Entry) (i : ℕ) (e : Entry) → IsPrefix xs ys → slice_get xs i ≡ Some e → take i xs ≡ take i ys
prefix_before [] ys i e p h = cc
prefix_before (x ∷ xs) [] i e p h = let k = p.1 in cc
prefix_before (x ∷ xs) (y ∷ ys) zero e p h = refl
prefix_before (x ∷ xs) (y ∷ ys) (suc i) e p h =
    let k = prefix_before xs ys i e (prefix_tail x y xs ys p).1 h in
    let l = (prefix_tail x y xs ys p).0 in
    cc

-- what stands in ys, entry by entry, is a prefix of it
pub prefix_from_get : (xs ys : List Entry) → ((i : ℕ) (e : Entry) → slice_get xs i ≡ Some e → slice_get ys i ≡ Some e) → IsPrefix xs ys
prefix_from_get [] ys h = prefix_none ys
prefix_from_get (x ∷ xs) [] h = let k = h zero x refl in cc
prefix_from_get (x ∷ xs) (y ∷ ys) h =
    let rest = prefix_from_get xs ys (λ i e g. h (suc i) e g) in
    let k = h zero x refl in
    (rest.0, let l = rest.1 in cc)

-- a prefix that is continued by what stands behind it is a prefix
pub prefix_more : (xs more ys : List Entry) → IsPrefix xs ys → ((i n : ℕ) (e : Entry) → n ≡ length xs + i → slice_get more i ≡ Some e → slice_get ys n ≡ Some e) → IsPrefix (xs ++ more) ys
prefix_more [] more ys p h = prefix_from_get more ys (λ i e g. h i i e (omega arith) g)
prefix_more (x ∷ xs) more [] p h = let k = p.1 in cc
prefix_more (x ∷ xs) more (y ∷ ys) p h =
    let t = prefix_tail x y xs ys p in
    let rest = prefix_more xs more ys t.1 (λ i n e m g. h i (suc n) e (omega arith) g) in
    (rest.0, let l = rest.1 in let k = t.0 in cc)

-- an entry of a list that grew by one is one of the list, or the new one
pub get_push : (xs : List Entry) (x : Entry) (i : ℕ) (e : Entry) → slice_get (xs ++ x ∷ []) i ≡ Some e → ((slice_get xs i ≡ Some e) × (take i (xs ++ x ∷ []) ≡ take i xs)) ⊎ ((i ≡ length xs) × (e ≡ x) × (take i (xs ++ x ∷ []) ≡ xs))
get_push [] x zero e h = inr (refl, sym (same_Some x e h), refl)
get_push [] x (suc i) e h = cc
get_push (y ∷ ys) x zero e h = inl (h, refl)
get_push (y ∷ ys) x (suc i) e h = step (get_push ys x i e h)
  where
    step : ((slice_get ys i ≡ Some e) × (take i (ys ++ x ∷ []) ≡ take i ys)) ⊎ ((i ≡ length ys) × (e ≡ x) × (take i (ys ++ x ∷ []) ≡ ys)) → ((slice_get ys i ≡ Some e) × (y ∷ take i (ys ++ x ∷ []) ≡ y ∷ take i ys)) ⊎ ((suc i ≡ suc (length ys)) × (e ≡ x) × (y ∷ take i (ys ++ x ∷ []) ≡ y ∷ ys))
    step (inl p) = inl (p.0, ap (λ (l : List Entry). y ∷ l) p.1)
    step (inr p) = inr (ap suc p.0, p.1, ap (λ (l : List Entry). y ∷ l) p.2)

pub get_within : (xs : List Entry) (i : ℕ) (e : Entry) → slice_get xs i ≡ Some e → i < length xs
get_within [] i e h = cc
get_within (x ∷ xs) zero e h = omega arith
get_within (x ∷ xs) (suc i) e h = let k = get_within xs i e h in omega arith

-- after a write, an element is the one that was written, or as before
pub get_set : (xs : List (List Entry)) (i : ℕ) (v : List Entry) (j : ℕ) (x : List Entry) → slice_get (slice_set xs i v) j ≡ Some x → (x ≡ v) ⊎ (slice_get xs j ≡ Some x)
get_set [] i v j x h = inr h
get_set (y ∷ ys) zero v zero x h = inl (sym (same_Some v x h))
get_set (y ∷ ys) zero v (suc j) x h = inr h
get_set (y ∷ ys) (suc i) v zero x h = inr h
get_set (y ∷ ys) (suc i) v (suc j) x h = get_set ys i v j x h

-- within a prefix, the whole has what the prefix has
pub prefix_back : (xs ys : List Entry) (n : ℕ) (e : Entry) → IsPrefix xs ys → n ≤ length xs → at_number ys n ≡ Some e → at_number xs n ≡ Some e
prefix_back xs ys zero e p l h = h
prefix_back [] ys (suc i) e p l h = absurd (omega arith)
prefix_back (x ∷ xs) [] (suc i) e p l h = let k = p.1 in cc
prefix_back (x ∷ xs) (y ∷ ys) (suc zero) e p l h = let k = (prefix_tail x y xs ys p).0 in cc
prefix_back (x ∷ xs) (y ∷ ys) (suc (suc i)) e p l h = prefix_back xs ys (suc i) e (prefix_tail x y xs ys p).1 (omega arith) h

pub prefix_front : (xs ys : List Entry) (n : ℕ) → IsPrefix xs ys → n ≤ length xs → take n ys ≡ take n xs
prefix_front xs ys n p l = ap (take n) (sym p.1) ∙ take-append-le n xs p.0 l

pub prefix_whole : (xs ys : List Entry) → IsPrefix xs ys → take (length xs) ys ≡ xs
prefix_whole xs ys p = prefix_front xs ys (length xs) p (omega arith) ∙ take_all (length xs) xs (omega arith)

pub get_drop : (k : ℕ) (xs : List Entry) (i n : ℕ) (e : Entry) → n ≡ k + i → slice_get (drop k xs) i ≡ Some e → slice_get xs n ≡ Some e
get_drop zero xs i n e m h = let k : n ≡ i = omega arith in subst (λ (j : ℕ). slice_get xs j ≡ Some e) (sym k) h
get_drop (suc k) [] i n e m h = cc
get_drop (suc k) (x ∷ xs) i zero e m h = absurd (omega arith)
get_drop (suc k) (x ∷ xs) i (suc n) e m h = get_drop k xs i n e (omega arith) h
