-- What the process of a party does, event by event: which may happen at it, and what each comes to,
-- is another's to say.
use Rattle.std.specs.Prelude.{◌≡◌, ℕ, zero, suc, Bool, true, false, List, [], ◌∷◌, Result, Ok, Err}
use Rattle.std.specs.Bool.{MatchBool}
use Rattle.bg_protocol.specs.declared.events.Event.{Event}
use Rattle.bg_protocol.specs.declared.events.Event.TheVariants as events
use Rattle.bg_protocol.specs.declared.events.Outcome.{Outcome}
use Rattle.bg_protocol.specs.declared.events.Outcome.TheVariants as outcomes
use Rattle.bg_protocol.specs.declared.events.RestoreCause.TheVariants as causes

-- a party that was restarted is up, and nothing was written; where its slots can't be read now, it
-- is down until a later round restarts it; any other reason why it is down ends its process
abbrev pub restarted : Outcome → Result Bool Outcome
restarted outcomes.Restarted = Ok false
restarted (outcomes.RestoreFault causes.Device) = Ok false
restarted outcome = Err outcome

module _ {M : Type 0} (Happens : M → Event → Outcome → M → Type 0) where
  -- the events happen, one after the other, each with what it came to
  abbrev pub Runs : M → List (Event × Outcome) → M → Type 0
  Runs old [] new = new ≡ old
  Runs old (first ∷ rest) new = (mid : M) × Happens old first.0 first.1 mid × Runs mid rest new

  -- an event happens again and again: so many times at most, and no more where its outcome is the
  -- last
  unfoldable pub Repeats : (M → Event) → (Outcome → Bool) → ℕ → M → M → Type 0
  Repeats event is_last zero old new = new ≡ old
  Repeats event is_last (suc most) old new =
      (outcome : Outcome) × (mid : M) × Happens old (event old) outcome mid
      × MatchBool (is_last outcome) (new ≡ mid) (Repeats event is_last most mid new)

  -- the party is restarted
  abbrev pub Restarts : ℕ → M → Result Bool Outcome → M → Type 0
  Restarts party old result new =
      (outcome : Outcome) × Happens old (events.Restart party) outcome new × (result ≡ restarted outcome)

  -- after a save: it was written; or it lacks memory, and is tried again later; or the write
  -- failed, and the party is restarted; or the process ends
  abbrev pub FollowsSave : ℕ → M → Outcome → Result Bool Outcome → M → Type 0
  FollowsSave party old (outcomes.Saved save) result new = (result ≡ Ok true) × (new ≡ old)
  FollowsSave party old outcomes.Memory result new = (result ≡ Ok false) × (new ≡ old)
  FollowsSave party old outcomes.SaveFault result new = Restarts party old result new
  FollowsSave party old outcome result new = (result ≡ Err outcome) × (new ≡ old)

  -- the party saves. Ok says whether that was written, Err why the process ends
  abbrev pub Saves : ℕ → M → Result Bool Outcome → M → Type 0
  Saves party old result new =
      (outcome : Outcome) × (mid : M) × Happens old (events.Save party) outcome mid
      × FollowsSave party mid outcome result new
