-- What the process of a referee does in a round.
use Rattle.std.specs.Prelude.{◌≡◌, ◌<◌, ◌+◌, ◌-◌, ◌^◌, ◌==◌, ◌||◌, nat_lt, min, ℕ, Bool, true, false, if◌then◌else◌}
use Rattle.std.specs.Prelude.{Option, List, Result, Ok, Err, MatchResult, is_none}
use Rattle.std.specs.Bool.{MatchBool}
use Rattle.bg_match.specs.Match.{Log}
use Rattle.bg_match.specs.Terms.{Terms}
use Rattle.bg_wire.specs.Entries.Codes.{referee}
use Rattle.bg_referee.specs.declared.outcomes.DueFault.TheVariants as due
use Rattle.bg_referee.specs.declared.outcomes.TakeOutcome.TheVariants as takes
use Rattle.bg_protocol.specs.Worlds.Nodes.{RefereeNodeDues, RefereeNodeRestarts, RefereeNodeSaves, RefereeNodeTakes, RefereeNodeTicks, RefereeNodeView, fresh_referee_node, referee_node_of}
use Rattle.bg_protocol.specs.Worlds.Starts.{referee_log}
use Rattle.bg_protocol.specs.Worlds.Views.{KeeperView, LinkView, keeper_view, link_view}
use Rattle.bg_protocol.specs.declared.devices.Keeper as keeper
use Rattle.bg_protocol.specs.declared.devices.Link as link
use Rattle.bg_protocol.specs.declared.events.Event.{Event}
use Rattle.bg_protocol.specs.declared.events.Event.TheVariants as events
use Rattle.bg_protocol.specs.declared.events.Outcome.{Outcome}
use Rattle.bg_protocol.specs.declared.events.Outcome.TheVariants as outcomes
use Rattle.bg_auto.specs.Attempts.{Notes, held_entries, keyed_word_for, restarts_referee}
use Rattle.bg_processes.specs.Rounds.{GoesWhere, IsOverAndSaved, count_of, ends_takes, most_parties, most_taken, saved_after}
use Rattle.bg_processes.specs.Runs.{Repeats, Restarts, Runs, Saves}
use Rattle.bg_processes.specs.declared.processes.referee.notes.RefereeNotes.{RefereeNotes}
use Rattle.bg_processes.specs.declared.processes.referee.RefereeProcess.{RefereeProcess}
use Rattle.bg_processes.specs.declared.processes.rounds.Going.{Going}

-- ---- the process at a moment

-- its node with its link and its keeper, the bytes of the key that its dice go by, and what it
-- notes: the attempt at its next entry, how many entries are saved, and for how many ticks nobody
-- was heard of that lacks one
pub record RefereeMoment : Type 0 where
  pub node : RefereeNodeView
  pub link : LinkView
  pub keeper : KeeperView
  pub key : List ℕ
  pub notes : RefereeNotes

abbrev pub referee_moment : {L K : Type 0} → link.Ghosts L → keeper.Ghosts K → RefereeProcess L K → RefereeMoment
referee_moment l k p = record {
  node = referee_node_of p.node;
  link = link_view l p.link;
  keeper = keeper_view k p.keeper;
  key = p.key;
  notes = p.notes;
}

-- its record, where it is up
abbrev pub log_of : RefereeMoment → Option Log
log_of at = referee_log at.node.core

-- the word for its next entry
abbrev pub word_at : RefereeMoment → ℕ
word_at at = keyed_word_for at.key at.notes.dice.held at.notes.dice.attempt

-- ---- an event

-- who lacks an entry is heard of, or sent to
abbrev pub is_heard : Outcome → Bool
is_heard (outcomes.Took (takes.Answer to packet)) = true
is_heard (outcomes.Took (takes.Accepted number)) = true
is_heard (outcomes.Sent count) = nat_lt 0 count
is_heard outcome = false

-- what is noted of an event, after which so many entries are held
pub record NotesOfReferee
    (old : RefereeNotes) (event : Event) (outcome : Outcome) (held : Option ℕ) (new : RefereeNotes) : Type 0 where
  pub dice : Notes old.dice (restarts_referee event) outcome held new.dice
  pub saved : new.saved ≡ saved_after old.saved event outcome held
  pub quiet : new.quiet ≡ (if is_heard outcome then 0 else old.quiet)

module _ (link_honest keeper_honest : Type 0) where
  -- The event is a call of the node: it takes what comes first, and words are those for its next
  -- entry.
  abbrev pub RefereeCalls : RefereeMoment → Event → Outcome → LinkView → KeeperView → RefereeNodeView → Type 0
  RefereeCalls at (events.Due word) outcome link keeper node =
      (word ≡ word_at at) × RefereeNodeDues at.node word outcome node × (link ≡ at.link) × (keeper ≡ at.keeper)
  RefereeCalls at (events.Take party pick word) outcome link keeper node =
      (party ≡ referee) × (pick ≡ 0) × (word ≡ word_at at)
      × RefereeNodeTakes link_honest most_parties at.link at.node pick word outcome link node × (keeper ≡ at.keeper)
  RefereeCalls at (events.Save party) outcome link keeper node =
      (party ≡ referee) × RefereeNodeSaves keeper_honest at.keeper at.node outcome keeper node × (link ≡ at.link)
  RefereeCalls at (events.Tick party) outcome link keeper node =
      (party ≡ referee) × RefereeNodeTicks link_honest most_parties at.link at.node outcome link node
      × (keeper ≡ at.keeper)
  RefereeCalls at (events.Restart party) outcome link keeper node =
      (party ≡ referee) × RefereeNodeRestarts keeper_honest at.keeper at.node outcome keeper node × (link ≡ at.link)
  RefereeCalls at (events.Choose player action) outcome link keeper node = ⊥

  -- an event happens at the process
  pub record RefereeHappens (old : RefereeMoment) (event : Event) (outcome : Outcome) (new : RefereeMoment) : Type 0 where
    pub calls : RefereeCalls old event outcome new.link new.keeper new.node
    pub notes : NotesOfReferee old.notes event outcome (held_entries (log_of new)) new.notes
    pub key : new.key ≡ old.key

-- ---- a round

-- a datagram is taken
abbrev pub take_at : RefereeMoment → Event
take_at at = events.Take referee 0 (word_at at)

-- a game is opened, or a turn passed: so often at most, and no more where no word is wanted
abbrev pub due_at : RefereeMoment → Event
due_at at = events.Due (word_at at)

abbrev pub most_due : ℕ
most_due = 16

abbrev pub ends_dues : Outcome → Bool
ends_dues (outcomes.Due (Ok number)) = false
ends_dues (outcomes.Due (Err due.WordRefused)) = false
ends_dues (outcomes.Due (Err due.EqualOpening)) = false
ends_dues outcome = true

-- what is to be sent unasked is sent: so often at most, and no more where nothing is
abbrev pub tick_at : RefereeMoment → Event
tick_at at = events.Tick referee

abbrev pub most_pushes : ℕ
most_pushes = 128

abbrev pub ends_pushes : Outcome → Bool
ends_pushes (outcomes.Sent count) = count == 0
ends_pushes outcome = true

-- after the match it goes on for so many ticks
abbrev pub quiet_ticks : ℕ
quiet_ticks = 50

-- a tick more, if one was due
abbrev pub quiet_later : ℕ → Bool → ℕ
quiet_later quiet tick = if tick then min (quiet + 1) (2 ^ 32 - 1) else quiet

abbrev pub with_quiet : RefereeMoment → ℕ → RefereeMoment
with_quiet at quiet = record at { notes = record (at.notes) { quiet = quiet } }

-- the match is over, all of it is saved, and nobody was heard of for long
abbrev pub IsServed : RefereeMoment → Type 0
IsServed at = (quiet_ticks < at.notes.quiet) × IsOverAndSaved (log_of at) at.notes.saved

module _ (link_honest keeper_honest : Type 0) where
  -- an event again and again
  abbrev pub RefereeRepeats : (RefereeMoment → Event) → (Outcome → Bool) → ℕ → RefereeMoment → RefereeMoment → Type 0
  RefereeRepeats event is_last most old new =
      Repeats (RefereeHappens link_honest keeper_honest) event is_last most old new

  -- where it is down it is restarted, else what is not saved yet is saved; Ok says whether there
  -- was any, and it was written
  abbrev pub SavesNews : RefereeMoment → Result Bool Outcome → RefereeMoment → Type 0
  SavesNews old result new =
      MatchBool (is_none (log_of old)) (Restarts (RefereeHappens link_honest keeper_honest) referee old result new)
      (MatchBool (count_of (held_entries (log_of old)) == old.notes.saved) ((result ≡ Ok false) × (new ≡ old))
      (Saves (RefereeHappens link_honest keeper_honest) referee old result new))

  -- what is new is sent where it was saved, and what is due where a tick is
  abbrev pub EndsRound : Bool → RefereeMoment → Bool → Result Going Outcome → RefereeMoment → Type 0
  EndsRound tick old saved result new =
      (sent : RefereeMoment)
      × RefereeRepeats tick_at ends_pushes (if tick || saved then most_pushes else 0) old sent
      × (new ≡ with_quiet sent (quiet_later sent.notes.quiet tick))
      × MatchResult result (GoesWhere (IsServed new)) (λ _. ⊥)

  -- A round, in which a tick is due or not: datagrams are taken, what is due is added, what has
  -- grown is saved, and then it is sent; where the referee is down, a restart is all that happens
  -- at it. Err says why the process ends.
  pub record PlaysRefereeRound
      (old : RefereeMoment) (tick : Bool) (result : Result Going Outcome) (new : RefereeMoment) : Type 0 where
    pub taken : RefereeMoment
    pub takes : RefereeRepeats take_at ends_takes most_taken old taken
    pub added : RefereeMoment
    pub dues : RefereeRepeats due_at ends_dues most_due taken added
    pub kept : RefereeMoment
    pub saved : Result Bool Outcome
    pub saves : SavesNews added saved kept
    pub ends : MatchResult saved (λ written. EndsRound tick kept written result new)
        (λ why. (result ≡ Err why) × (new ≡ kept))

  -- The events of a round are a run of the node, event by event; behind them it counts the tick.
  pub record RunsRefereeRound (old : RefereeMoment) (new : RefereeMoment) : Type 0 where
    pub happened : List (Event × Outcome)
    pub last : RefereeMoment
    pub runs : Runs (RefereeHappens link_honest keeper_honest) old happened last
    pub counted : (quiet : ℕ) × (new ≡ with_quiet last quiet)

-- ---- the beginning

-- the process begins with a restart of its node, whatever its keeper's slots have; the dice with
-- the first attempt
pub record RefereeBegins
    (honest : Type 0) (id : ℕ) (terms : Terms) (key : List ℕ) (link : LinkView) (keeper : KeeperView) (outcome : Outcome)
    (new : RefereeMoment) : Type 0 where
  pub restarts : RefereeNodeRestarts honest keeper (fresh_referee_node id terms) outcome new.keeper new.node
  pub link_is : new.link ≡ link
  pub key_is : new.key ≡ key
  pub notes_are : new.notes ≡ record {
    dice = record { held = held_entries (log_of new); attempt = 0 };
    saved = count_of (held_entries (log_of new));
    quiet = 0;
  }
