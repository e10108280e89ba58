-- An event that happens again and again, up to the first outcome that is the last.
use Rattle.std.proofs.Common.{◌≡◌, ◌<◌, ◌≤◌, ◌+◌, ◌-◌, ℕ, suc, Bool, true, false, refl, sym, subst, arith}
use Rattle.std.specs.Bool.{MatchBool}
use Rattle.bg_protocol.specs.declared.events.Event.{Event}
use Rattle.bg_protocol.specs.declared.events.Outcome.{Outcome}
use Rattle.bg_processes.specs.Runs.{Repeats}

module _ {M : Type 0} (Happens : M → Event → Outcome → M → Type 0) (event : M → Event) (is_last : Outcome → Bool) where
  -- it happened i times of most, and what it comes to from here on it comes to from the first
  abbrev pub HasRepeated : ℕ → ℕ → M → M → Type 0
  HasRepeated most i first old =
      (new : M) → Repeats Happens event is_last (most - i) old new → Repeats Happens event is_last most first new

  pub stops : (most i : ℕ) (first old new : M) (outcome : Outcome) → i < most
      → Happens old (event old) outcome new → is_last outcome ≡ true → HasRepeated most i first old
      → Repeats Happens event is_last most first new
  unfolding Repeats
  stops most i first old new outcome below happens last so_far =
      let left : suc (most - suc i) ≡ most - i = omega arith in
      let rest : MatchBool (is_last outcome) (new ≡ new) (Repeats Happens event is_last (most - suc i) new new) =
      subst (λ (b : Bool). MatchBool b (new ≡ new) (Repeats Happens event is_last (most - suc i) new new)) (sym last)
      refl in
      let step : Repeats Happens event is_last (suc (most - suc i)) old new = (outcome, new, happens, rest) in
      so_far new (subst (λ (n : ℕ). Repeats Happens event is_last n old new) left step)

  pub goes_on : (most i : ℕ) (first old mid : M) (outcome : Outcome) → i < most
      → Happens old (event old) outcome mid → is_last outcome ≡ false → HasRepeated most i first old
      → HasRepeated most (i + 1) first mid
  unfolding Repeats
  goes_on most i first old mid outcome below happens more so_far new rest =
      let left : suc (most - suc i) ≡ most - i = omega arith in
      let same : most - (i + 1) ≡ most - suc i = omega arith in
      let later : Repeats Happens event is_last (most - suc i) mid new =
      subst (λ (n : ℕ). Repeats Happens event is_last n mid new) same rest in
      let after : MatchBool (is_last outcome) (new ≡ mid) (Repeats Happens event is_last (most - suc i) mid new) =
      subst (λ (b : Bool). MatchBool b (new ≡ mid) (Repeats Happens event is_last (most - suc i) mid new)) (sym more)
      later in
      let step : Repeats Happens event is_last (suc (most - suc i)) old new = (outcome, mid, happens, after) in
      so_far new (subst (λ (n : ℕ). Repeats Happens event is_last n old new) left step)

  pub is_done : (most i : ℕ) (first old : M) → most ≤ i → HasRepeated most i first old
      → Repeats Happens event is_last most first old
  unfolding Repeats
  is_done most i first old enough so_far =
      let none : 0 ≡ most - i = omega arith in
      let step : Repeats Happens event is_last 0 old old = refl in
      so_far old (subst (λ (n : ℕ). Repeats Happens event is_last n old old) none step)
