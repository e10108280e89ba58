-- Reading one thing after another, as a loop does.
use Rattle.std.proofs.Common.{◌≡◌, ℕ, suc, ◌-◌, ◌+◌, ◌≤◌, ◌<◌, List, [], ◌∷◌, ◌++◌, length, zero, Result, Ok, Err, refl, sym, ap, ◌∙◌, append_assoc, arith}
use Rattle.std.proofs.lemmas.List.{append-nil}
use Rattle.bg_wire.specs.declared.entries.reader.ReadFault.{ReadFault}
use Rattle.bg_wire.proofs.Laws.{ok_is}
use Rattle.bg_wire.specs.Entries.Reading.{◌>>=◌, Cursor, Read, many_at}

-- what was read before, and what is still read
abbrev pub with_front : {A : Type 0} → List A → Read (List A) → Read (List A)
with_front front read = read >>= λ x. Ok (front ++ x.0, x.1)

regroup : {A : Type 0} (front : List A) (x : A) (read : Read (List A)) → with_front front (read >>= λ y. Ok (x ∷ y.0, y.1)) ≡ with_front (front ++ x ∷ []) read
regroup {A} front x (Ok y) = ap (λ (xs : List A). Ok (xs, y.1)) (simp append_assoc)
regroup front x (Err f) = refl

module _ {A : Type 0} (one : Cursor → Read A) (front : List A) (count i : ℕ) (c : Cursor) (total : Read (List A)) where
  pub goes_on : (x : A) (d : Cursor) → i < count → one c ≡ Ok (x, d)
      → with_front front (many_at one (count - i) c) ≡ total → with_front (front ++ x ∷ []) (many_at one (count - (i + 1)) d) ≡ total
  unfolding many_at
  goes_on x d lt h so_far =
      let k : count - i ≡ suc (count - (i + 1)) = omega arith in
      let step : with_front front (many_at one (count - i) c) ≡ with_front (front ++ x ∷ []) (many_at one (count - (i + 1)) d) = rw (k, h) (regroup front x (many_at one (count - (i + 1)) d)) in
      sym step ∙ so_far

  pub ends : (f : ReadFault) → i < count → one c ≡ Err f → with_front front (many_at one (count - i) c) ≡ total → total ≡ Err f
  unfolding many_at
  ends f lt h so_far =
      let k : count - i ≡ suc (count - (i + 1)) = omega arith in
      let step : with_front front (many_at one (count - i) c) ≡ Err f = rw (k, h) refl in
      sym so_far ∙ step

  pub is_done : count ≤ i → with_front front (many_at one (count - i) c) ≡ total → total ≡ Ok (front, c)
  unfolding many_at
  is_done le so_far =
      let k : count - i ≡ 0 = omega arith in
      let step : with_front front (many_at one (count - i) c) ≡ Ok (front, c) = rw k (ap (λ (xs : List A). Ok (xs, c)) (append-nil front)) in
      sym so_far ∙ step

-- what was read before stands in front of all that is read
pub front_of_all : {A : Type 0} (front : List A) (read : Read (List A)) (all : List A) (d : Cursor) → with_front front read ≡ Ok (all, d) → (rest : List A) × (all ≡ front ++ rest)
front_of_all {A} front (Ok x) all d e = let same = ok_is (front ++ x.0, x.1) (all, d) e in (x.0, sym (ap (λ (p : List A × Cursor). p.0) same))
front_of_all front (Err f) all d e = absurd cc

abbrev added : {A : Type 0} → A → Read (List A) → Read (List A)
added x read = read >>= λ y. Ok (x ∷ y.0, y.1)

-- so many are read
pub many_len : {A : Type 0} (one : Cursor → Read A) (n : ℕ) (c : Cursor) (xs : List A) (d : Cursor) → many_at one n c ≡ Ok (xs, d) → length xs ≡ n
unfolding many_at
many_len one zero c xs d e = let same = ok_is ([], c) (xs, d) e in ap (λ (p : List _ × Cursor). length p.0) (sym same)
many_len {A} one (suc n) c xs d e = go (λ c ys d e. many_len one n c ys d e) (one c) refl e
  where
    next : (first : A × Cursor) (r : Read (List A)) → ((ys : List A) (d : Cursor) → r ≡ Ok (ys, d) → length ys ≡ n) → added first.0 r ≡ Ok (xs, d) → length xs ≡ suc n
    next first (Ok y) shorter e =
        let same = ok_is (first.0 ∷ y.0, y.1) (xs, d) e in
        ap (λ (p : List A × Cursor). length p.0) (sym same) ∙ ap suc (shorter y.0 y.1 refl)
    next first (Err f) shorter e = absurd cc

    go : ((c : Cursor) (ys : List A) (d : Cursor) → many_at one n c ≡ Ok (ys, d) → length ys ≡ n) → (r : Read A) → one c ≡ r → (r >>= λ x. added x.0 (many_at one n x.1)) ≡ Ok (xs, d) → length xs ≡ suc n
    go shorter (Ok first) was e = next first (many_at one n first.1) (shorter first.1) e
    go shorter (Err f) was e = absurd cc

-- where the reading goes on
abbrev pub passed_of : {A : Type 0} → Read A → Result Cursor ReadFault
passed_of (Ok read) = Ok read.1
passed_of (Err why) = Err why

-- passing over one thing after another

passed-cons : {A : Type 0} (x : A) (read : Read (List A)) → passed_of (read >>= λ y. Ok (x ∷ y.0, y.1)) ≡ passed_of read
passed-cons x (Ok y) = refl
passed-cons x (Err f) = refl

module _ {A : Type 0} (one : Cursor → Read A) (count i : ℕ) (c : Cursor) (total : Result Cursor ReadFault) where
  pub passes : (x : A) (d : Cursor) → i < count → one c ≡ Ok (x, d) → passed_of (many_at one (count - i) c) ≡ total → passed_of (many_at one (count - (i + 1)) d) ≡ total
  unfolding many_at
  passes x d lt h so_far =
      let k : count - i ≡ suc (count - (i + 1)) = omega arith in
      let step : passed_of (many_at one (count - i) c) ≡ passed_of (many_at one (count - (i + 1)) d) = rw (k, h) (passed-cons x (many_at one (count - (i + 1)) d)) in
      sym step ∙ so_far

  pub stops : (f : ReadFault) → i < count → one c ≡ Err f → passed_of (many_at one (count - i) c) ≡ total → total ≡ Err f
  unfolding many_at
  stops f lt h so_far =
      let k : count - i ≡ suc (count - (i + 1)) = omega arith in
      let step : passed_of (many_at one (count - i) c) ≡ Err f = rw (k, h) refl in
      sym so_far ∙ step

  pub passed_all : count ≤ i → passed_of (many_at one (count - i) c) ≡ total → total ≡ Ok c
  unfolding many_at
  passed_all le so_far =
      let k : count - i ≡ 0 = omega arith in
      let step : passed_of (many_at one (count - i) c) ≡ Ok c = rw k refl in
      sym so_far ∙ step

-- what was passed over is a list
pub passed_list : {A : Type 0} (read : Read (List A)) (d : Cursor) → passed_of read ≡ Ok d → (xs : List A) × (read ≡ Ok (xs, d))
passed_list (Ok x) d e = let same : x.1 ≡ d = cc in (x.0, ap (λ (c : Cursor). Ok (x.0, c)) same)
passed_list (Err f) d e = absurd cc

pub passed_not : {A : Type 0} (read : Read (List A)) (f : ReadFault) → passed_of read ≡ Err f → read ≡ Err f
passed_not (Ok x) f e = absurd cc
passed_not (Err g) f e = let same : g ≡ f = cc in ap (λ (h : ReadFault). Err h) same
