-- Lists of steps that begin at a point: which there are, and their order.
use Rattle.std.proofs.Common.{◌≡◌, ℕ, zero, suc, ◌-◌, ◌<◌, ◌≤◌, true, false, List, [], ◌∷◌, ◌++◌, length, get_or, refl, sym, ◌∙◌, ap, arith, inl, inr}
use Rattle.std.specs.Prelude.{Contains, AllPairs}
use Rattle.std.proofs.lemmas.Bool.{cases_eq, cases_lt, cases_Bool, cond-true, cond-false}
use Rattle.std.proofs.lemmas.List.{get_or-map, length-map, get_or_append_left}
use Rattle.std.proofs.Math.Seq.{get_or-append_right}
use Rattle.std.proofs.lemmas.List.Elements.{Contains-get_or, Contains-append_left, Contains-append_right, Contains-append_cases}
use Rattle.std.proofs.Common.{length-append}
use Rattle.bg_board.specs.FromTo.{FromTo}
use Rattle.bg_turns.specs.declared.mover_counts.MoverCounts.{MoverCounts}
use Rattle.bg_turns.specs.MoverCounts.{step_of, can, after, begin, at_each, one_die, behind}
use Rattle.bg_turns.specs.TurnOrder.{IsGreater}

module _ (f : ℕ → List (List FromTo)) where
  pub at_each-none : at_each f 0 ≡ []
  unfolding at_each
  at_each-none = refl

  at_each-suc : (n : ℕ) → at_each f (suc n) ≡ f (suc n) ++ at_each f n
  unfolding at_each
  at_each-suc n = refl

  pub at_each-at : (n : ℕ) → 0 < n → at_each f n ≡ f n ++ at_each f (n - 1)
  at_each-at zero some = absurd (omega arith)
  at_each-at (suc n) some = let back : suc n - 1 ≡ n = omega arith in rw back (at_each-suc n)

  -- points where nothing begins may be left out
  pub at_each-above : (n h : ℕ) → h ≤ n → ((m : ℕ) → h < m → m ≤ n → f m ≡ []) → at_each f n ≡ at_each f h
  at_each-above zero h low none = let same : h ≡ 0 = omega arith in rw same refl
  at_each-above (suc n) h low none = elim (cases_eq h (suc n)) [
    | inl same ↦ rw same refl
    | inr other ↦
        at_each-suc n ∙ (ap (λ xs. xs ++ at_each f n) (none (suc n) (omega arith) (omega arith))
        ∙ at_each-above n h (omega arith) (λ m above within. none m above (omega arith)))
  ]

  pub contains_at_each : (n m : ℕ) (x : List FromTo) → 1 ≤ m → m ≤ n → Contains (f m) x → Contains (at_each f n) x
  contains_at_each zero m x some within h = absurd (omega arith)
  contains_at_each (suc n) m x some within h = elim (cases_eq m (suc n)) [
    | inl same ↦ rw (at_each-suc n) (Contains-append_left (f (suc n)) (at_each f n) x (rw same at h))
    | inr other ↦ rw (at_each-suc n) (Contains-append_right (f (suc n)) (at_each f n) x (contains_at_each n m x some (omega arith) h))
  ]

  pub at_each_contains : (n : ℕ) (x : List FromTo) → Contains (at_each f n) x → (m : ℕ) × (1 ≤ m) × (m ≤ n) × Contains (f m) x
  at_each_contains zero x h = absurd (let k = (rw at_each-none at h).1 in omega arith)
  at_each_contains (suc n) x h = elim (Contains-append_cases (f (suc n)) (at_each f n) x (rw (at_each-suc n) at h)) [
    | inl here ↦ (suc n, omega arith, omega arith, here)
    | inr later ↦ (let r = at_each_contains n x later in (r.0, r.1, omega arith, r.3))
  ]

-- ---- order
pub AllPairs-append : (xs ys : List (List FromTo)) → AllPairs IsGreater xs → AllPairs IsGreater ys → ((x y : List FromTo) → Contains xs x → Contains ys y → IsGreater x y) → AllPairs IsGreater (xs ++ ys)
AllPairs-append xs ys a b c i j d less within =
    let long = length-append xs ys in
    elim (cases_lt j (length xs)) [
      | inl before ↦ rw (get_or_append_left xs ys d i (omega arith), get_or_append_left xs ys d j before) (a i j d less before)
      | inr behind ↦ elim (cases_lt i (length xs)) [
        | inl first ↦
            rw (get_or_append_left xs ys d i first, get_or-append_right xs ys j d behind)
            (c (get_or xs i d) (get_or ys (j - length xs) d) (Contains-get_or xs i d first) (Contains-get_or ys (j - length xs) d (omega arith)))
        | inr both ↦
            rw (get_or-append_right xs ys i d both, get_or-append_right xs ys j d behind)
            (b (i - length xs) (j - length xs) d (omega arith) (omega arith))
      ]
    ]

AllPairs-none : AllPairs IsGreater []
AllPairs-none i j d less within = absurd (omega arith)

pub AllPairs-one : (x : List FromTo) → AllPairs IsGreater (x ∷ [])
AllPairs-one x i j d less within = absurd (omega arith)

pub AllPairs-begin : (step : FromTo) (rests : List (List FromTo)) → AllPairs IsGreater rests → AllPairs IsGreater (begin step rests)
AllPairs-begin step rests ordered i j d less within =
    let inside : j < length rests = rw length-map at within in
    rw (get_or-map (λ r. step ∷ r) rests i [] d (omega arith), get_or-map (λ r. step ∷ r) rests j [] d inside)
    (inr (refl, ordered i j [] less inside))

-- a list that begins at a point
abbrev pub StartsAt : ℕ → List FromTo → Type 0
StartsAt n [] = ⊥
StartsAt n (step ∷ rest) = step.from ≡ n

greater_higher : (m n : ℕ) (x y : List FromTo) → n < m → StartsAt m x → StartsAt n y → IsGreater x y
greater_higher m n [] y less a b = absurd a
greater_higher m n (s ∷ x) [] less a b = absurd b
greater_higher m n (s ∷ x) (t ∷ y) less a b = inl (inl (omega arith))

pub at_each-ordered : (f : ℕ → List (List FromTo)) (n : ℕ) → ((m : ℕ) → AllPairs IsGreater (f m)) → ((m : ℕ) (x : List FromTo) → Contains (f m) x → StartsAt m x) → AllPairs IsGreater (at_each f n)
at_each-ordered f zero ordered starts = rw (at_each-none f) AllPairs-none
at_each-ordered f (suc n) ordered starts =
    rw (at_each-suc f n)
    (AllPairs-append (f (suc n)) (at_each f n) (ordered (suc n)) (at_each-ordered f n ordered starts)
    (λ x y first second.
    let r = at_each_contains f n y second in
    greater_higher (suc n) r.0 x y (omega arith) (starts (suc n) x first) (starts r.0 y r.3)))

-- ---- lists that begin with a step
pub contains_begin : (step : FromTo) (rests : List (List FromTo)) (rest : List FromTo) → Contains rests rest → Contains (begin step rests) (step ∷ rest)
contains_begin step rests rest h =
    (h.0, rw length-map h.1, get_or-map (λ r. step ∷ r) rests h.0 rest (step ∷ rest) h.1 ∙ ap (λ r. step ∷ r) h.2)

pub begin_contains : (step : FromTo) (rests : List (List FromTo)) (steps : List FromTo) → Contains (begin step rests) steps → (rest : List FromTo) × Contains rests rest × (steps ≡ step ∷ rest)
begin_contains step rests steps h =
    let within : h.0 < length rests = rw length-map at h.1 in
    (get_or rests h.0 [], Contains-get_or rests h.0 [] within, sym h.2 ∙ get_or-map (λ r. step ∷ r) rests h.0 [] steps within)

pub nothing : (steps : List FromTo) → Contains [] steps → ⊥
nothing steps h = let k = h.1 in omega arith

pub only_empty : (steps : List FromTo) → Contains ([] ∷ []) steps → steps ≡ []
only_empty steps (zero, below, same) = sym same
only_empty steps (suc k, below, same) = absurd (omega arith)

module _ (r : MoverCounts) (die : ℕ) (rest : MoverCounts → List (List FromTo)) (from : ℕ) where
  pub one_die-yes : can r from die ≡ true → one_die r die rest from ≡ begin (step_of from die) (rest (after r from (from - die)))
  one_die-yes passed = cond-true (can r from die) _ _ passed

  pub one_die-no : can r from die ≡ false → one_die r die rest from ≡ []
  one_die-no failed = cond-false (can r from die) _ _ failed

  pub one_die_contains : (steps : List FromTo) → Contains (one_die r die rest from) steps → (tail : List FromTo) × (can r from die ≡ true) × Contains (rest (after r from (from - die))) tail × (steps ≡ step_of from die ∷ tail)
  one_die_contains steps h = elim (cases_Bool (can r from die)) [
    | inl passed ↦
        let e = one_die-yes passed in
        let b = begin_contains (step_of from die) (rest (after r from (from - die))) steps (rw e at h) in
        (b.0, passed, b.1, b.2)
    | inr failed ↦ (let e = one_die-no failed in absurd (nothing steps (rw e at h)))
  ]

  pub contains_one_die : (tail : List FromTo) → can r from die ≡ true → Contains (rest (after r from (from - die))) tail → Contains (one_die r die rest from) (step_of from die ∷ tail)
  contains_one_die tail passed h = rw (one_die-yes passed) (contains_begin (step_of from die) (rest (after r from (from - die))) tail h)

  pub one_die-ordered : ((q : MoverCounts) → AllPairs IsGreater (rest q)) → AllPairs IsGreater (one_die r die rest from)
  one_die-ordered ordered = elim (cases_Bool (can r from die)) [
    | inl passed ↦ rw (one_die-yes passed) (AllPairs-begin (step_of from die) (rest (after r from (from - die))) (ordered (after r from (from - die))))
    | inr failed ↦ rw (one_die-no failed) AllPairs-none
  ]

  pub one_die-starts : (steps : List FromTo) → Contains (one_die r die rest from) steps → StartsAt from steps
  one_die-starts steps h = let c = one_die_contains steps h in rw c.3 refl
