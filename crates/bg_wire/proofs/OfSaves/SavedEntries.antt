-- The texts of the entries of a record, by their numbers.
use Rattle.std.proofs.Common.{◌≡◌, ℕ, zero, suc, ◌+◌, ◌≤◌, List, [], ◌∷◌, ◌++◌, length, take, length-append, Some, refl, sym, ap, subst, ◌∙◌, append_assoc, arith}
use Rattle.std.specs.Prelude.{slice_get}
use Rattle.std.specs.List.{AllByRecursion}
use Rattle.std.proofs.lemmas.List.{append-nil}
use Rattle.std.proofs.lemmas.List.Concat.{flat_map-cons}
use Rattle.bg_match.specs.Entry.{IsEntry}
use Rattle.bg_match.specs.Match.{at_number}
use Rattle.bg_match.specs.declared.entries.Entry.{Entry}
use Rattle.bg_wire.specs.Entries.EntryText.{entry_bytes, entries_bytes, bytes_at}

pub at_next : {A : Type 0} (xs : List A) (i : ℕ) → at_number xs (i + 1) ≡ slice_get xs i
at_next xs i = let k : i + 1 ≡ suc i = omega arith in rw k refl

pub entry_in_range : (xs : List Entry) (i : ℕ) (e : Entry) → AllByRecursion IsEntry xs → slice_get xs i ≡ Some e → IsEntry e
entry_in_range [] i e all h = absurd cc
entry_in_range (x ∷ xs) zero e all h = let same : x ≡ e = cc in subst IsEntry same all.0
entry_in_range (x ∷ xs) (suc i) e all h = entry_in_range xs i e all.1 h

taken_suc : (xs : List Entry) (i : ℕ) → entries_bytes (take (suc i) xs) ≡ entries_bytes (take i xs) ++ bytes_at xs i
taken_suc [] zero = refl
taken_suc [] (suc i) = refl
taken_suc (x ∷ xs) zero = flat_map-cons entry_bytes x [] ∙ append-nil (entry_bytes x)
taken_suc (x ∷ xs) (suc i) =
    flat_map-cons entry_bytes x (take (suc i) xs) ∙ ap (λ (r : List ℕ). entry_bytes x ++ r) (taken_suc xs i) ∙ sym (append_assoc (entry_bytes x) (entries_bytes (take i xs)) (bytes_at xs i))
    ∙ ap (λ (r : List ℕ). r ++ bytes_at xs i) (sym (flat_map-cons entry_bytes x (take i xs)))

pub taken_next : (xs : List Entry) (i : ℕ) → entries_bytes (take (i + 1) xs) ≡ entries_bytes (take i xs) ++ bytes_at xs i
taken_next xs i = let k : i + 1 ≡ suc i = omega arith in rw k (taken_suc xs i)

-- one more entry is written
pub written_next : (xs : List Entry) (i : ℕ) (start text new added : List ℕ) → text ≡ start ++ entries_bytes (take i xs) → new ≡ text ++ added → added ≡ bytes_at xs i → new ≡ start ++ entries_bytes (take (i + 1) xs)
written_next xs i start text new added so_far grown is =
    grown ∙ ap (λ (r : List ℕ). r ++ added) so_far ∙ append_assoc start (entries_bytes (take i xs)) added ∙ ap (λ (r : List ℕ). start ++ r) (ap (λ (r : List ℕ). entries_bytes (take i xs) ++ r) is ∙ sym (taken_next xs i))

-- some of the entries have no longer texts than all
part_len : (xs : List Entry) (i : ℕ) → length (entries_bytes (take i xs)) ≤ length (entries_bytes xs)
part_len xs zero = omega arith
part_len [] (suc i) = omega arith
part_len (x ∷ xs) (suc i) =
    let part = ap length (flat_map-cons entry_bytes x (take i xs)) in
    let all = ap length (flat_map-cons entry_bytes x xs) in
    let few = length-append (entry_bytes x) (entries_bytes (take i xs)) in
    let many = length-append (entry_bytes x) (entries_bytes xs) in
    omega (arith, part, all, few, many, part_len xs i)

-- so room for all is room for what is written so far
pub written_fits : (xs : List Entry) (i : ℕ) (start text : List ℕ) (room : ℕ) → text ≡ start ++ entries_bytes (take i xs)
    → length start + length (entries_bytes xs) ≤ room → length text ≤ room
written_fits xs i start text room so_far fits =
    let both = length-append start (entries_bytes (take i xs)) in
    omega (arith, ap length so_far, both, part_len xs i, fits)
