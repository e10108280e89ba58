-- Legs that are added one behind the other.
use Rattle.std.specs.Prelude.{◌≡◌, ℕ, ◌+◌, ◌-◌, ◌≤◌, true, List, [], ◌∷◌, ◌++◌, length, take, drop, nat_eq, codes, Option, None, Some, MatchOption, Result, Ok, Err, IfOk, OnOk}
use Rattle.std.specs.Cmp.Lexicographic.{pointwise, same_text}
use Rattle.std.proofs.Common.{append_assoc, refl, sym, ◌∙◌, ap, arith, length-drop}
use Rattle.std.proofs.lemmas.List.{take-append-drop, take_all}
use Rattle.bg_mat.specs.Rows.Words.{IsFirstWord}
use Rattle.bg_mat.specs.Legs.{AddsLegs, TellsLeg, TellsLegs, TellsWord}
use Rattle.bg_mat.specs.Rows.Cells.{AddsMovement}
use Rattle.bg_mat.specs.declared.movements.legs.Leg.{Leg}

pub on_ok : {A E : Type 0} {P Q : Type 0} (r : Result A E) → (P → Q) → OnOk r P → OnOk r Q
on_ok (Ok x) f h = f h
on_ok (Err e) f h = h

pub if_ok : {A E : Type 0} {P Q : A → Type 0} (r : Result A E) → ((x : A) → P x → Q x) → IfOk r P → IfOk r Q
if_ok (Ok x) f h = f x h
if_ok (Err e) f h = h

pub if_found : {A : Type 0} {N M : Type 0} {P Q : A → Type 0} (found : Option A) → (N → M) → ((x : A) → P x → Q x)
    → MatchOption found N P → MatchOption found M Q
if_found None none some h = none h
if_found (Some x) none some h = some x h

-- what is left of a text behind what it begins with
pub begins : (line start rest : List ℕ) → (pointwise nat_eq (take (length start) line) start ≡ true) × (rest ≡ drop (length start) line) × (length rest + length start ≡ length line) → line ≡ start ++ rest
begins line start rest (h, e, n) =
    sym (take-append-drop (length start) line)
    ∙ (ap (λ front. front ++ drop (length start) line) (same_text (take (length start) line) start (sym h))
    ∙ ap (λ more. start ++ more) (sym e))

-- a text behind a slash is cut in two
pub slashed : (text behind word rest : List ℕ) (k : ℕ) → text ≡ codes "/" ++ behind → k ≤ length behind
    → word ≡ take k behind → rest ≡ take (length behind - k) (drop k behind) → text ≡ codes "/" ++ (word ++ rest)
slashed text behind word rest k e within w r =
    let whole : take (length behind - k) (drop k behind) ≡ drop k behind = take_all _ _ (simp length-drop (omega arith)) in
    rw (w, r, whole) (e ∙ ap (λ (t : List ℕ). codes "/" ++ t) (sym (take-append-drop k behind)))

-- one leg more
pub one_more : (from : ℕ) (text word rest : List ℕ) (leg : Leg) (old middle new : List Leg)
    → text ≡ codes "/" ++ (word ++ rest) → TellsLeg from word leg → middle ≡ old ++ leg ∷ []
    → AddsLegs (TellsLegs leg.step.to rest) middle new → AddsLegs (TellsLegs from text) old new
one_more from text word rest leg old middle new e tells m (more, all, n) =
    (leg ∷ more, (word, rest, e, tells, all), n ∙ (ap (λ (xs : List Leg). xs ++ more) m ∙ simp append_assoc))

-- one word more
pub more_movement : (text word middle rest : List ℕ) (old between new : List Leg)
    → IsFirstWord text word middle → AddsLegs (TellsWord word) old between → AddsMovement middle rest between new
    → AddsMovement text rest old new
more_movement text word middle rest old between new first (own, tells, e) (more, (words, begin, all), n) = (
  own ++ more,
  (word ∷ words, (middle, first, begin), (own, more, tells, all, refl)),
  n ∙ (ap (λ (xs : List Leg). xs ++ more) e ∙ simp append_assoc),
)
