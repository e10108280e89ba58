-- When a follower sends.
use Rattle.std.specs.Prelude.{◌≡◌, ◌==◌, ℕ, zero, suc, ◌-◌, ◌*◌, ◌<◌, ◌≤◌, Bool, true, false, min, if◌then◌else◌}

-- from one tick on which a follower sends to the next there are at most so many
abbrev pub longest_gap : ℕ
longest_gap = 32

-- how many ticks go by before it sends, and how many it is then from the tick on which it sends to
-- the next such one
pub record RetryView : Type 0 where
  pub wait : ℕ
  pub gap : ℕ

-- what every one keeps
pub record IsRetry (r : RetryView) : Type 0 where
  pub shortest : 1 ≤ r.gap
  pub longest : r.gap ≤ longest_gap

-- at the start: it sends on the next tick, and then on the one after that
abbrev pub at_once : RetryView
at_once = record { wait = 0; gap = 1 }

-- whether it sends on the next tick
abbrev pub is_due : RetryView → Bool
is_due r = r.wait == 0

-- a tick later: each gap is twice the one before, up to the longest
abbrev pub after_tick : RetryView → RetryView
after_tick r =
    if is_due r
    then record { wait = r.gap - 1; gap = min longest_gap (2 * r.gap) }
    else record { wait = r.wait - 1; gap = r.gap }

-- so many ticks later
abbrev pub after_ticks : ℕ → RetryView → RetryView
after_ticks zero r = r
after_ticks (suc n) r = after_ticks n (after_tick r)

-- where it sends on the next tick, it is silent on those after it until its gap is over, and sends
-- then; the gap after that is twice as long, up to the longest
abbrev pub KeepsTheGaps : Type 0
KeepsTheGaps = (r : RetryView) → is_due r ≡ true
    → ((n : ℕ) → 1 ≤ n → n < r.gap → is_due (after_ticks n r) ≡ false)
    × (is_due (after_ticks r.gap r) ≡ true) × ((after_ticks r.gap r).gap ≡ min longest_gap (2 * r.gap))
