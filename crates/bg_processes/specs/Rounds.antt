-- What the rounds of all parties have in common.
use Rattle.std.specs.Prelude.{◌≡◌, ℕ, Bool, true, false, if◌then◌else◌, Option, Some, None, length}
use Rattle.std.specs.Bool.{OnFalse, OnTrue}
use Rattle.bg_match.specs.Match.{ActsAfter, Log}
use Rattle.bg_match.specs.declared.phases.Actor.TheVariants.{Nobody}
use Rattle.bg_protocol.specs.declared.events.Event.{Event}
use Rattle.bg_protocol.specs.declared.events.Event.TheVariants as events
use Rattle.bg_protocol.specs.declared.events.Outcome.{Outcome}
use Rattle.bg_protocol.specs.declared.events.Outcome.TheVariants as outcomes
use Rattle.bg_processes.specs.declared.processes.rounds.Going.{Going}
use Rattle.bg_processes.specs.declared.processes.rounds.Going.TheVariants.{On, Over}

-- as many parties as have numbers
abbrev pub most_parties : ℕ
most_parties = 256

-- so many datagrams are taken in a round at most
abbrev pub most_taken : ℕ
most_taken = 64

-- the test says whether P
abbrev pub Tells : Bool → Type 0 → Type 0
Tells test P = OnTrue test P × OnFalse test (P → ⊥)

-- nothing has come, or nothing can be taken
abbrev pub ends_takes : Outcome → Bool
ends_takes outcomes.NoDatagram = true
ends_takes outcomes.LinkFault = true
ends_takes outcomes.Down = true
ends_takes outcome = false

-- how many entries a party holds: none where it is down
abbrev pub count_of : Option ℕ → ℕ
count_of None = 0
count_of (Some entries) = entries

-- the party saved what it holds
abbrev pub is_saved : Outcome → Bool
is_saved (outcomes.Saved save) = true
is_saved outcome = false

-- its slots have what it holds: it was saved, or given back
abbrev pub keeps_all : Event → Outcome → Bool
keeps_all (events.Save party) outcome = is_saved outcome
keeps_all (events.Restart party) outcome = true
keeps_all event outcome = false

-- how many entries are saved after an event, where the party then holds so many
abbrev pub saved_after : ℕ → Event → Outcome → Option ℕ → ℕ
saved_after saved event outcome held = if keeps_all event outcome then count_of held else saved

-- the party knows that the match is over
abbrev pub IsOver : Option Log → Type 0
IsOver None = ⊥
IsOver (Some log) = ActsAfter log.terms log.entries Nobody

-- and so many entries, which are saved, are all
abbrev pub IsOverAndSaved : Option Log → ℕ → Type 0
IsOverAndSaved None saved = ⊥
IsOverAndSaved (Some log) saved = ActsAfter log.terms log.entries Nobody × (length log.entries ≡ saved)

-- the process is over exactly where P
abbrev pub GoesWhere : Type 0 → Going → Type 0
GoesWhere P Over = P
GoesWhere P On = P → ⊥
