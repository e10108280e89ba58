-- Which words tell not_one legs.
use Rattle.std.specs.Prelude.{◌≡◌, ◌≢◌, ◌⊎◌, ◌==◌, ℕ, zero, suc, ◌+◌, ◌<◌, ◌≤◌, Bool, true, false, List, [], ◌∷◌, ◌++◌, length, codes, Result, Ok, Err, IfErr, OnErr}
use Rattle.std.proofs.Common.{length-append, refl, sym, ◌∙◌, ap, subst, inl, inr, arith}
use Rattle.std.proofs.lemmas.Bool.{ne_eqb}
use Rattle.std.proofs.lemmas.List.{append_cancel_right}
use Rattle.bg_mat.specs.Legs.{AddsLegs, BeginsSlash, IsBracketed, IsCounted, IsPart, IsPointText, RefusesLegs, TellsLeg, TellsLegs, TellsPath, TellsWord, mark, repeated}
use Rattle.bg_mat.specs.declared.movements.legs.Leg.{Leg}
use Rattle.bg_mat.specs.declared.movements.legs.LegFault.{LegFault}
use Rattle.bg_mat.specs.declared.movements.legs.LegFault.TheVariants as leg_fault
use Rattle.bg_mat.proofs.OfReading.MovementLemmas.{AllOf, IsHigh, StopsAt, all_both, all_right, all_weaker, bracket_none, bracketed, cut_same, legs_begin, legs_cut, legs_same, path_path, point_high, point_same, IsPathByte}

-- no slash
abbrev IsPartByte : ℕ → Type 0
IsPartByte byte = (byte == 47) ≡ false

high_part : (byte : ℕ) → IsHigh byte → IsPartByte byte
high_part byte high = ne_eqb byte 47 (λ e. omega arith)

point_part : (word : List ℕ) (p : ℕ) → IsPointText word p → AllOf IsPartByte word
point_part word p h = all_weaker IsHigh IsPartByte high_part word (point_high word p h)

mark_part : (hits : Bool) → AllOf IsPartByte (mark hits)
mark_part true = (refl, tt)
mark_part false = tt

leg_part : (from : ℕ) (word : List ℕ) (leg : Leg) → TellsLeg from word leg → AllOf IsPartByte word
leg_part from word leg h =
    subst (AllOf IsPartByte) (sym h.marked)
    (all_both IsPartByte h.point (mark leg.hits) (point_part h.point leg.step.to h.ends) (mark_part leg.hits))

part_all : (text : List ℕ) → IsPart text → AllOf IsPartByte text
part_all [] h = tt
part_all (x ∷ text) h = (h 0 0 (omega arith), part_all text (λ k d l. h (suc k) d (omega arith)))

slash_stops : (rest : List ℕ) → BeginsSlash rest → StopsAt IsPartByte rest
slash_stops [] h = tt
slash_stops (x ∷ rest) h = λ k. absurd (cc (h, k))

legs_stop : (from : ℕ) (rest : List ℕ) (legs : List Leg) → TellsLegs from rest legs → StopsAt IsPartByte rest
legs_stop from rest legs h = at rest (legs_begin from rest legs h) where
  at : (rest : List ℕ) → (rest ≡ []) ⊎ ((more : List ℕ) × (rest ≡ 47 ∷ more)) → StopsAt IsPartByte rest
  at rest (inl e) = rw e tt
  at rest (inr (more, e)) = rw e (λ k. absurd (cc (k)))

-- the first leg of a text
legs_open : (from : ℕ) (text behind word rest : List ℕ) (leg : Leg) (more : List Leg) → text ≡ 47 ∷ behind
    → behind ≡ word ++ rest → IsPart word → BeginsSlash rest → TellsLegs from text (leg ∷ more)
    → TellsLeg from word leg × TellsLegs leg.step.to rest more
legs_open from text behind word rest leg more e d part slash (other, last, f, first, tells) =
    let both : 47 ∷ behind ≡ 47 ∷ (other ++ last) = sym e ∙ f in
    let same : behind ≡ other ++ last = cc in
    let cut = cut_same IsPartByte other last word rest (sym same ∙ d) (leg_part from other leg first) (part_all word part)
    (legs_stop leg.step.to last more tells) (slash_stops rest slash) in (
      subst (λ (w : List ℕ). TellsLeg from w leg) cut.0 first,
      subst (λ (t : List ℕ). TellsLegs leg.step.to t more) cut.1 tells,
    )

some_text : (text behind : List ℕ) → text ≡ 47 ∷ behind → text ≡ [] → ⊥
some_text text behind e d = absurd (cc (e, d))

-- no leg begins here
pub leg_refused : (from : ℕ) (text behind word rest : List ℕ) (old : List Leg) → text ≡ 47 ∷ behind
    → behind ≡ word ++ rest → IsPart word → BeginsSlash rest → ((leg : Leg) → TellsLeg from word leg → ⊥)
    → RefusesLegs (TellsLegs from text) old leg_fault.NotAMovement
leg_refused from text behind word rest old e d part slash none [] h = some_text text behind e h
leg_refused from text behind word rest old e d part slash none (leg ∷ more) h =
    none leg (legs_open from text behind word rest leg more e d part slash h).0

-- no slash begins the text
pub slash_refused : (from : ℕ) (text : List ℕ) (old : List Leg) → (text ≡ [] → ⊥)
    → ((rest : List ℕ) → text ≡ (47 ∷ []) ++ rest → ⊥) → RefusesLegs (TellsLegs from text) old leg_fault.NotAMovement
slash_refused from text old some none [] h = some h
slash_refused from text old some none (leg ∷ more) (word, rest, e, first, tells) = none (word ++ rest) e

one_leg : (from : ℕ) (word : List ℕ) (l k : Leg) → TellsLeg from word l → TellsLeg from word k → l ≡ k
one_leg from word l k first second = (legs_cut word [] word [] from l k refl first second (inl refl) (inl refl)).0

-- a leg before others
leg_before : (from : ℕ) (text behind word rest : List ℕ) (leg : Leg) (more : List Leg) → text ≡ 47 ∷ behind
    → behind ≡ word ++ rest → TellsLeg from word leg → TellsLegs leg.step.to rest more → TellsLegs from text (leg ∷ more)
leg_before from text behind word rest leg more e d first tells =
    (word, rest, e ∙ ap (λ (t : List ℕ). 47 ∷ t) d, first, tells)

-- no legs are told where none are behind the first one
none_behind : (from : ℕ) (text behind word rest : List ℕ) (leg : Leg) → text ≡ 47 ∷ behind → behind ≡ word ++ rest
    → IsPart word → BeginsSlash rest → TellsLeg from word leg → ((more : List Leg) → TellsLegs leg.step.to rest more → ⊥)
    → (more : List Leg) → TellsLegs from text more → ⊥
none_behind from text behind word rest leg e d part slash first none [] h = some_text text behind e h
none_behind from text behind word rest leg e d part slash first none (k ∷ more) h =
    let o = legs_open from text behind word rest k more e d part slash h in
    let same : k ≡ leg = one_leg from word k leg o.0 first in
    none more (subst (λ (l : Leg). TellsLegs l.step.to rest more) same o.1)

-- the legs behind the first one are refused
pub more_refused : (from : ℕ) (text behind word rest : List ℕ) (leg : Leg) (old now : List Leg) (fault : LegFault) → text ≡ 47 ∷ behind
    → behind ≡ word ++ rest → IsPart word → BeginsSlash rest → TellsLeg from word leg → now ≡ old ++ leg ∷ []
    → RefusesLegs (TellsLegs leg.step.to rest) now fault → RefusesLegs (TellsLegs from text) old fault
more_refused from text behind word rest leg old now leg_fault.NotAMovement e d part slash first is refused =
    none_behind from text behind word rest leg e d part slash first refused
more_refused from text behind word rest leg old now leg_fault.TooMany e d part slash first is (more, tells, many) =
    let size : length now ≡ length old + 1 = rw is (length-append old (leg ∷ [])) in
    (leg ∷ more, leg_before from text behind word rest leg more e d first tells, omega (arith, size, many))

-- there is no room for the leg, and those behind it are refused
pub full_refused : (from : ℕ) (text behind word rest : List ℕ) (leg : Leg) (old : List Leg) (fault : LegFault) → text ≡ 47 ∷ behind
    → behind ≡ word ++ rest → IsPart word → BeginsSlash rest → TellsLeg from word leg
    → RefusesLegs (TellsLegs leg.step.to rest) old fault → RefusesLegs (TellsLegs from text) old fault
full_refused from text behind word rest leg old leg_fault.NotAMovement e d part slash first refused =
    none_behind from text behind word rest leg e d part slash first refused
full_refused from text behind word rest leg old leg_fault.TooMany e d part slash first (more, tells, many) =
    (leg ∷ more, leg_before from text behind word rest leg more e d first tells, omega (arith, many))

-- there is no room for the leg, and there are such behind it
pub room_refused : (from : ℕ) (text behind word rest : List ℕ) (leg : Leg) (old now : List Leg) → text ≡ 47 ∷ behind
    → behind ≡ word ++ rest → TellsLeg from word leg → 4 ≤ length old → AddsLegs (TellsLegs leg.step.to rest) old now
    → RefusesLegs (TellsLegs from text) old leg_fault.TooMany
room_refused from text behind word rest leg old now e d first full (more, tells, is) =
    (leg ∷ more, leg_before from text behind word rest leg more e d first tells, omega (arith, full))

-- the mark of a word, and what stands before it
pub leg_parts : (from : ℕ) (word point : List ℕ) (hits : Bool) (leg : Leg) → word ≡ point ++ mark hits
    → (hits ≡ false → (p : List ℕ) → word ≡ p ++ codes "*" → ⊥) → TellsLeg from word leg → IsPointText point leg.step.to
leg_parts from word point hits leg e none h = at hits leg.hits e none h.marked where
  at : (b g : Bool) → word ≡ point ++ mark b → (b ≡ false → (p : List ℕ) → word ≡ p ++ codes "*" → ⊥) → word ≡ h.point ++ mark g
      → IsPointText point leg.step.to
  at true true e none d =
      subst (λ (w : List ℕ). IsPointText w leg.step.to) (append_cancel_right h.point point (codes "*") (sym d ∙ e)) h.ends
  at false true e none d = absurd (none refl h.point d)
  at true false e none d =
      let plain : h.point ++ [] ≡ point ++ codes "*" = sym d ∙ e in
      let all : AllOf IsHigh (h.point ++ []) = all_both IsHigh h.point [] (point_high h.point leg.step.to h.ends) tt in
      let star = all_right IsHigh point (codes "*") (subst (AllOf IsHigh) plain all) in
      absurd (let low = star.0 in omega (arith, low))
  at false false e none d =
      subst (λ (w : List ℕ). IsPointText w leg.step.to) (append_cancel_right h.point point [] (sym d ∙ e)) h.ends

pub leg_low : (from : ℕ) (word : List ℕ) (leg : Leg) → TellsLeg from word leg → leg.step.to ≤ 25
leg_low from word leg h = let a = h.on_board in let b = h.lower in omega (arith, a, b)

-- where a path begins
path_open : (text start rest : List ℕ) (legs : List Leg) → text ≡ start ++ rest → IsPart start → BeginsSlash rest → TellsPath text legs
    → (from : ℕ) × IsPointText start from × (from ≤ 25) × TellsLegs from rest legs × (legs ≢ [])
path_open text start rest legs e part slash (from, begin, last, d, is, tells, some) =
    let cut = cut_same IsPartByte begin last start rest (sym d ∙ e) (point_part begin from is) (part_all start part)
    (legs_stop from last legs tells) (slash_stops rest slash) in (
      from,
      subst (λ (w : List ℕ). IsPointText w from) cut.0 is,
      low from last legs tells some,
      subst (λ (t : List ℕ). TellsLegs from t legs) cut.1 tells,
      some,
    ) where
      low : (from : ℕ) (last : List ℕ) (legs : List Leg) → TellsLegs from last legs → (legs ≢ []) → from ≤ 25
      low from last [] tells some = absurd (some refl)
      low from last (leg ∷ legs) (word, rest, e, first, more) some = first.on_board

pub start_refused : (text start rest : List ℕ) → text ≡ start ++ rest → IsPart start → BeginsSlash rest
    → ((point : ℕ) → point ≤ 25 → IsPointText start point → ⊥) → RefusesLegs (TellsPath text) [] leg_fault.NotAMovement
start_refused text start rest e part slash none legs h =
    let o = path_open text start rest legs e part slash h in none o.0 o.2 o.1

some_legs : (legs : List Leg) → 4 < 0 + length legs → legs ≢ []
some_legs [] many e = omega (arith, many)
some_legs (leg ∷ legs) many e = absurd (cc (e))

pub legs_refused : (text start rest : List ℕ) (from : ℕ) (fault : LegFault) → text ≡ start ++ rest → IsPart start → BeginsSlash rest
    → IsPointText start from → RefusesLegs (TellsLegs from rest) [] fault → RefusesLegs (TellsPath text) [] fault
legs_refused text start rest from leg_fault.NotAMovement e part slash is refused = λ legs h.
    let o = path_open text start rest legs e part slash h in
    refused legs (subst (λ (p : ℕ). TellsLegs p rest legs) (point_same start o.0 from o.1 is) o.3)
legs_refused text start rest from leg_fault.TooMany e part slash is (more, tells, many) =
    (more, (from, start, rest, e, is, tells, some_legs more many), many)

pub no_legs_refused : (text start rest : List ℕ) (from : ℕ) → text ≡ start ++ rest → IsPart start → BeginsSlash rest
    → IsPointText start from → TellsLegs from rest [] → RefusesLegs (TellsPath text) [] leg_fault.NotAMovement
no_legs_refused text start rest from e part slash is empty legs h =
    let o = path_open text start rest legs e part slash h in
    let tells : TellsLegs from rest legs = subst (λ (p : ℕ). TellsLegs p rest legs) (point_same start o.0 from o.1 is) o.3 in
    o.4 (legs_same from rest legs [] tells empty)

ends_three : (a b : List ℕ) (x y : ℕ) → a ++ (40 ∷ x ∷ 41 ∷ []) ≡ b ++ (40 ∷ y ∷ 41 ∷ []) → (a ≡ b) × (x ≡ y)
ends_three [] [] x y e = (refl, cc)
ends_three [] (z ∷ b) x y e =
    let n : length (40 ∷ x ∷ 41 ∷ []) ≡ length (z ∷ (b ++ (40 ∷ y ∷ 41 ∷ []))) = ap (λ (t : List ℕ). length t) e in
    let m = length-append b (40 ∷ y ∷ 41 ∷ []) in
    absurd (omega (arith, n, m))
ends_three (w ∷ a) [] x y e =
    let n : length (w ∷ (a ++ (40 ∷ x ∷ 41 ∷ []))) ≡ length (40 ∷ y ∷ 41 ∷ []) = ap (λ (t : List ℕ). length t) e in
    let m = length-append a (40 ∷ x ∷ 41 ∷ []) in
    absurd (omega (arith, n, m))
ends_three (w ∷ a) (z ∷ b) x y e =
    let first : w ≡ z = cc in
    let more : a ++ (40 ∷ x ∷ 41 ∷ []) ≡ b ++ (40 ∷ y ∷ 41 ∷ []) = cc in
    let rest = ends_three a b x y more in
    (cc (first, rest.0), rest.1)

some_times : (word path : List ℕ) (count : ℕ) → IsCounted word path count → 1 ≤ count
some_times word path count (inl (e, one)) = omega (arith, one)
some_times word path count (inr (low, high, e)) = low

-- the path of a word, and how often it is gone
word_open : (word path : List ℕ) (count : ℕ) (legs : List Leg) → IsCounted word path count
    → ((p : List ℕ) (n : ℕ) → IsBracketed word p n → IsBracketed word path count) → TellsWord word legs
    → (once : List Leg) × TellsPath path once × (legs ≡ repeated count once)
word_open word path count legs (inl (e, one)) both (p, n, once, inl (d, single), is, all) =
    (once, subst (λ (t : List ℕ). TellsPath t once) (sym d ∙ e) is, rw one (rw single at all))
word_open word path count legs (inr (low, high, e)) both (p, n, once, inl (d, single), is, all) =
    absurd (bracket_none path ((48 + count) ∷ codes ")")
    (subst (AllOf IsPathByte) (sym d ∙ bracketed word path count e) (path_path p once is)))
word_open word path count legs counted both (p, n, once, inr (low, high, d), is, all) =
    let b = both p n (low, high, d) in
    let cut = ends_three p path (48 + n) (48 + count) (sym (bracketed word p n d) ∙ bracketed word path count b.2) in
    let more = cut.1 in
    let same : n ≡ count = omega (arith, more) in
    (once, subst (λ (t : List ℕ). TellsPath t once) cut.0 is, subst (λ (k : ℕ). legs ≡ repeated k once) same all)

few_times : (count : ℕ) (once : List Leg) → 1 ≤ count → length once ≤ length (repeated count once)
few_times zero once low = absurd (omega arith)
few_times (suc n) once low = let m = length-append once (repeated n once) in omega (arith, m)

pub path_refused : (word path : List ℕ) (count : ℕ) (old : List Leg) (fault : LegFault) → IsCounted word path count
    → ((p : List ℕ) (n : ℕ) → IsBracketed word p n → IsBracketed word path count) → RefusesLegs (TellsPath path) [] fault
    → RefusesLegs (TellsWord word) old fault
path_refused word path count old leg_fault.NotAMovement counted both refused = λ more h.
    let o = word_open word path count more counted both h in refused o.0 o.1
path_refused word path count old leg_fault.TooMany counted both (once, tells, many) =
    let low = few_times count once (some_times word path count counted) in
    (repeated count once, (path, count, once, counted, tells, refl), omega (arith, low, many))

pub times_refused : {A : Type 0} (r : Result A LegFault) (word path : List ℕ) (count : ℕ) (once old : List Leg) → IsCounted word path count
    → TellsPath path once → r ≢ Err leg_fault.NotAMovement → OnErr r (4 < length old + length (repeated count once))
    → IfErr r (RefusesLegs (TellsWord word) old)
times_refused (Ok x) word path count once old counted is other many = tt
times_refused (Err leg_fault.NotAMovement) word path count once old counted is other many = absurd (other refl)
times_refused (Err leg_fault.TooMany) word path count once old counted is other many =
    (repeated count once, (path, count, once, counted, is, refl), many)

-- no leg was added, and so there is none
pub none_added : (from : ℕ) (rest : List ℕ) (now : List Leg) → AddsLegs (TellsLegs from rest) [] now → true ≡ (length now == 0)
    → TellsLegs from rest []
none_added from rest [] (more, tells, is) empty = subst (λ (legs : List Leg). TellsLegs from rest legs) (sym is) tells
none_added from rest (leg ∷ now) (more, tells, is) empty =
    let some : (length (leg ∷ now) == 0) ≡ false = ne_eqb (length (leg ∷ now)) 0 (λ e. omega arith) in
    absurd (cc (some, empty))
