-- A follower keeps its gaps.
use Rattle.std.proofs.Common.{◌≡◌, ◌==◌, ℕ, zero, suc, ◌-◌, ◌*◌, ◌<◌, ◌≤◌, ◌∙◌, Bool, true, false, min, if◌then◌else◌}
use Rattle.std.proofs.Common.{refl, ap, subst, arith}
use Rattle.std.proofs.lemmas.Bool.Decides.{nat_tests}
use Rattle.bg_party.specs.Retry.{RetryView, KeepsTheGaps, is_due, after_tick, after_ticks, longest_gap}

-- it waits tick by tick
waits : (i w gap : ℕ) → i ≤ w → after_ticks i (record { wait = w; gap = gap }) ≡ record { wait = w - i; gap = gap }
waits zero w gap within = let same : w - zero ≡ w = omega arith in rw same refl
waits (suc i) w gap within =
    let busy : (w == 0) ≡ false = grind (arith, nat_tests) in
    let step : after_tick (record { wait = w; gap = gap }) ≡ record { wait = w - 1; gap = gap } =
    ap (λ (b : Bool). if b then record { wait = gap - 1; gap = min longest_gap (2 * gap) } else record {
      wait =
          w - 1;
      gap = gap;
    }) busy in
    let less : w - 1 - i ≡ w - suc i = omega arith in
    ap (after_ticks i) step ∙ waits i (w - 1) gap (omega arith) ∙ ap (λ (n : ℕ). record { wait = n; gap = gap }) less

-- the ticks after one on which it sends
later : (gap i : ℕ) → suc i ≤ gap
    → after_ticks (suc i)
    (record { wait = 0; gap = gap }) ≡ record { wait = gap - 1 - i; gap = min longest_gap (2 * gap) }
later gap i within = waits i (gap - 1) (min longest_gap (2 * gap)) (omega arith)

silent : (gap n : ℕ) → 1 ≤ n → n < gap → is_due (after_ticks n (record { wait = 0; gap = gap })) ≡ false
silent gap zero some less = absurd (omega arith)
silent gap (suc i) some less =
    let left : ((gap - 1 - i) == 0) ≡ false = grind (arith, nat_tests) in
    ap is_due (later gap i (omega arith)) ∙ left

sends : (gap n : ℕ) → n ≡ gap
    → after_ticks n (record { wait = 0; gap = gap }) ≡ record { wait = 0; gap = min longest_gap (2 * gap) }
sends gap zero same =
    subst (λ (g : ℕ). after_ticks zero
    (record { wait = 0; gap = g }) ≡ record { wait = 0; gap = min longest_gap (2 * g) }) same refl
sends gap (suc i) same =
    let none : gap - 1 - i ≡ 0 = omega arith in
    later gap i (omega arith) ∙ ap (λ (n : ℕ). record { wait = n; gap = min longest_gap (2 * gap) }) none

keeps_gap : (wait gap : ℕ) → wait ≡ 0
    → ((n : ℕ) → 1 ≤ n → n < gap → is_due (after_ticks n (record { wait = wait; gap = gap })) ≡ false)
    × (is_due (after_ticks gap (record { wait = wait; gap = gap })) ≡ true)
    × ((after_ticks gap (record { wait = wait; gap = gap })).gap ≡ min longest_gap (2 * gap))
keeps_gap wait gap none =
    rw none (silent gap, ap is_due (sends gap gap refl), ap (λ (s : RetryView). s.gap) (sends gap gap refl))

pub keeps_the_gaps : KeepsTheGaps
keeps_the_gaps r due = keeps_gap r.wait r.gap (grind (arith, nat_tests))
