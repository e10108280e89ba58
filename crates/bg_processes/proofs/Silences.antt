-- Silence is counted.
use Rattle.std.proofs.Common.{◌≡◌, ◌==◌, ℕ, ◌+◌, ◌∙◌, Bool, true, false, min, cond, if◌then◌else◌}
use Rattle.std.proofs.Common.{List, [], ◌∷◌, refl, ap, sym, arith}
use Rattle.std.specs.Prelude.{nat_le}
use Rattle.std.specs.List.{count_by, take_while}
use Rattle.std.proofs.lemmas.Bool.{cond-true, cond-false}
use Rattle.std.proofs.lemmas.Bool.Decides.{nat_tests}
use Rattle.std.proofs.lemmas.List.Sums.{sum_by-cons, take_while-cons}
use Rattle.bg_processes.specs.Liveness.{Counted, CountsSilence, after_rounds, silent_ticks, ticks_at_newest}

abbrev one_of : Bool → ℕ
one_of tick = if tick then 1 else 0

-- the rounds from the newest on that have this count, and their ticks
abbrev rounds_at : ℕ → List Counted → List Counted
rounds_at count rounds = take_while (λ (round : Counted). round.count == count) rounds

abbrev ticks_at : ℕ → List Counted → ℕ
ticks_at count rounds = count_by (λ (round : Counted). round.tick) (rounds_at count rounds)

ticks_with : (count : ℕ) (round : Counted) (earlier : List Counted) → (round.count == count) ≡ true
    → ticks_at count (round ∷ earlier) ≡ one_of round.tick + ticks_at count earlier
ticks_with count round earlier same =
    ap (count_by (λ (r : Counted). r.tick)) (take_while-cons (λ (r : Counted). r.count == count) round earlier
    ∙ cond-true (round.count == count) (round ∷ rounds_at count earlier) [] same)
    ∙ sum_by-cons (λ (r : Counted). cond r.tick 1 0) round (rounds_at count earlier)

ticks_without : (count : ℕ) (round : Counted) (earlier : List Counted) → (round.count == count) ≡ false
    → ticks_at count (round ∷ earlier) ≡ 0
ticks_without count round earlier other =
    ap (count_by (λ (r : Counted). r.tick)) (take_while-cons (λ (r : Counted). r.count == count) round earlier
    ∙ cond-false (round.count == count) (round ∷ rounds_at count earlier) [] other)

-- a round more, at the count of the one before or at another
one_more : (same : Bool) (tick unheard ticks_before ticks : ℕ) → unheard ≡ min silent_ticks ticks_before
    → (same ≡ true → ticks ≡ ticks_before) → (same ≡ false → ticks ≡ 0)
    → min silent_ticks ((if same then unheard else 0) + tick) ≡ min silent_ticks (tick + ticks)
one_more true tick unheard ticks_before ticks is at_it other =
    let as_before = at_it refl in
    omega arith
one_more false tick unheard ticks_before ticks is at_it other =
    let none = other refl in
    omega arith

own : (round : Counted) → (round.count == round.count) ≡ true
own round = grind (arith, nat_tests)

unheard : (rounds : List Counted) → (after_rounds rounds).unheard ≡ min silent_ticks (ticks_at_newest rounds)
unheard [] = refl
unheard (round ∷ []) =
    one_more (round.count == 0) (one_of round.tick) 0 0 0 refl (λ _. refl) (λ _. refl)
    ∙ ap (min silent_ticks) (sym (ticks_with round.count round [] (own round)))
unheard (round ∷ previous ∷ earlier) =
    let at_it : (round.count == previous.count) ≡ true
    → ticks_at round.count (previous ∷ earlier) ≡ ticks_at previous.count (previous ∷ earlier) =
    λ same. ap (λ (n : ℕ). ticks_at n (previous ∷ earlier)) (grind (arith, nat_tests)) in
    let other : (round.count == previous.count) ≡ false → ticks_at round.count (previous ∷ earlier) ≡ 0 =
    λ differs. ticks_without round.count previous earlier (grind (arith, nat_tests)) in
    one_more (round.count == previous.count) (one_of round.tick) (after_rounds (previous ∷ earlier)).unheard
    (ticks_at previous.count (previous ∷ earlier)) (ticks_at round.count (previous ∷ earlier))
    (unheard (previous ∷ earlier)) at_it other
    ∙ ap (min silent_ticks) (sym (ticks_with round.count round (previous ∷ earlier) (own round)))

reached : (ticks : ℕ) → nat_le silent_ticks (min silent_ticks ticks) ≡ nat_le silent_ticks ticks
reached ticks = grind (arith, nat_tests)

pub counts_silence : CountsSilence
counts_silence rounds = ap (nat_le silent_ticks) (unheard rounds) ∙ reached (ticks_at_newest rounds)
