-- At which attempt the referee is handed a word for its next entry.
use Rattle.std.specs.Prelude.{◌≡◌, ◌≢◌, ◌⊎◌, ◌==◌, ℕ, ◌+◌, ◌%◌, List, length, Bool, true, false}
use Rattle.std.specs.Prelude.{if◌then◌else◌, Option, Some, None, Err}
use Rattle.bg_referee.specs.declared.outcomes.DueFault.TheVariants as due
use Rattle.bg_referee.specs.declared.outcomes.TakeOutcome.TheVariants as take
use Rattle.bg_match.specs.Match.{Log}
use Rattle.bg_protocol.specs.declared.events.Event.{Event}
use Rattle.bg_protocol.specs.declared.events.Event.TheVariants.{Restart}
use Rattle.bg_protocol.specs.declared.events.Outcome.{Outcome}
use Rattle.bg_protocol.specs.declared.events.Outcome.TheVariants.{Due, Took}
use Rattle.bg_auto.specs.declared.dice_attempts.DiceAttempts.{DiceAttempts}
use Rattle.bg_auto.specs.Words.{attempts, key_bytes, keyed_dice_word}

-- the word gave no entry: it has no dice, or they are equal and open no game
abbrev pub was_in_vain : Outcome → Bool
was_in_vain (Due (Err due.WordRefused)) = true
was_in_vain (Due (Err due.EqualOpening)) = true
was_in_vain (Took take.WordRefused) = true
was_in_vain _ = false

-- the attempt after an event which left the referee with as many entries, and did not restart it
abbrev pub attempt_after : ℕ → Outcome → ℕ
attempt_after attempt outcome = if was_in_vain outcome then (attempt + 1) % attempts else attempt

-- the event restarts the referee
abbrev pub restarts_referee : Event → Bool
restarts_referee (Restart party) = party == 0
restarts_referee _ = false

-- how many entries a party holds that is up
abbrev pub held_entries : Option Log → Option ℕ
held_entries None = None
held_entries (Some log) = Some (length log.entries)

-- what is noted after an event, where the referee then holds so many entries: the first attempt
-- where the event restarted it, or it held another number of entries before, else the attempt after
-- the outcome
pub record Notes
    (old : DiceAttempts) (restarted : Bool) (outcome : Outcome) (held : Option ℕ) (new : DiceAttempts) : Type 0 where
  pub held_now : new.held ≡ held
  pub first : (restarted ≡ true) ⊎ (held ≢ old.held) → new.attempt ≡ 0
  pub next : restarted ≡ false → held ≡ old.held → new.attempt ≡ attempt_after old.attempt outcome

-- the word that is handed in where the referee holds so many entries, by the bytes of a key: 0
-- where it is down; and by the key of a seed
abbrev pub keyed_word_for : List ℕ → Option ℕ → ℕ → ℕ
keyed_word_for key None attempt = 0
keyed_word_for key (Some entries) attempt = keyed_dice_word key (entries + 1) attempt

abbrev pub word_for : ℕ → Option ℕ → ℕ → ℕ
word_for seed held attempt = keyed_word_for (key_bytes seed) held attempt
