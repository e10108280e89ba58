-- A match that is played round by round: which events happen, and in which order.
use Rattle.std.specs.Prelude.{◌≡◌, ◌⊎◌, ◌==◌, ℕ, zero, suc, Bool, true, false, if◌then◌else◌, Option, Some, None}
use Rattle.std.specs.Prelude.{List, [], ◌∷◌, ◌++◌}
use Rattle.bg_board.specs.declared.players.Player.{Player}
use Rattle.bg_board.specs.declared.players.Player.TheVariants.{X, O}
use Rattle.bg_match.specs.Match.{Log}
use Rattle.bg_match.specs.declared.actions.Action.{Action}
use Rattle.bg_wire.specs.Entries.Codes.{referee, seat_of_x, seat_of_o, first_watcher}
use Rattle.bg_protocol.specs.Worlds.Calls.{Calls}
use Rattle.bg_protocol.specs.Worlds.Starts.{held_of}
use Rattle.bg_protocol.specs.Worlds.Views.{WorldView}
use Rattle.bg_protocol.specs.Worlds.WorldRuns.{is_memory}
use Rattle.bg_protocol.specs.declared.events.Event.{Event}
use Rattle.bg_protocol.specs.declared.events.Event.TheVariants as events
use Rattle.bg_protocol.specs.declared.events.Outcome.{Outcome}
use Rattle.bg_protocol.specs.declared.events.Outcome.TheVariants.{RestoreFault, SaveFault}
use Rattle.bg_protocol.specs.declared.roles.Role.TheVariants as roles
use Rattle.bg_auto.specs.Attempts.{Notes, held_entries, restarts_referee, word_for}
use Rattle.bg_auto.specs.AutoAction.{IsAutoAction, IsToMove}
use Rattle.bg_auto.specs.Schedule.{seat_log}
use Rattle.bg_auto.specs.declared.dice_attempts.DiceAttempts.{DiceAttempts}
use Rattle.bg_auto.specs.declared.loop_faults.LoopFault.{LoopFault}
use Rattle.bg_auto.specs.declared.loop_faults.LoopFault.TheVariants.{Memory, Stopped}
use Rattle.bg_auto.specs.declared.round_schedule.Part.{Part}
use Rattle.bg_auto.specs.declared.round_schedule.Part.TheVariants.{Choose, Due, Restart, Save, Take, Tick}

-- ---- the schedule

-- the party that only watches
abbrev pub watcher : ℕ
watcher = first_watcher

-- the referee and the seats begin again from what their slots restore
abbrev pub first_parts : List Part
first_parts = Restart referee ∷ Restart seat_of_x ∷ Restart seat_of_o ∷ []

-- the parts of a round
abbrev pub round_parts : List Part
round_parts =
    Take referee ∷ Take referee ∷ Take referee ∷ Take referee
    ∷ Due
    ∷ Save referee
    ∷ Take seat_of_x ∷ Take seat_of_o ∷ Take watcher
    ∷ Take seat_of_x ∷ Take seat_of_o ∷ Take watcher
    ∷ Choose X ∷ Choose O
    ∷ Save seat_of_x ∷ Save seat_of_o
    ∷ Tick referee ∷ Tick seat_of_x ∷ Tick seat_of_o ∷ Tick watcher ∷ []

-- the parts of a match of so many rounds
abbrev pub match_parts : ℕ → List Part
match_parts zero = first_parts
match_parts (suc rounds) = match_parts rounds ++ round_parts

-- ---- the event of a part

-- a match at a moment: its seed, its world, and the attempt at the referee's next entry
pub record Moment : Type 0 where
  pub seed : ℕ
  pub world : WorldView
  pub dice : DiceAttempts

-- the word for the referee's next entry
abbrev pub next_word : Moment → ℕ
next_word at = word_for at.seed at.dice.held at.dice.attempt

-- the word that a party is handed with a datagram: the others need none
abbrev pub handed_word : Moment → ℕ → ℕ
handed_word at party = if party == referee then next_word at else 0

-- of what has come for a party it takes the first
abbrev pub pick : ℕ
pick = 0

-- a player whose seat is up does what an automatic player does after its record; no event, where
-- that is nothing
abbrev pub IsChosen : Moment → Player → Option Event → Type 0
IsChosen at player None = (log : Log) → seat_log at.world player ≡ Some log → IsAutoAction log player None
IsChosen at player (Some event) =
    (log : Log) × (does : Action) × (seat_log at.world player ≡ Some log) × IsAutoAction log player (Some does)
    × (event ≡ events.Choose player does)

-- the event of a part, if it has one
abbrev pub IsEventOf : Moment → Part → Option Event → Type 0
IsEventOf at Due event = event ≡ Some (events.Due (next_word at))
IsEventOf at (Take party) event = event ≡ Some (events.Take party pick (handed_word at party))
IsEventOf at (Choose player) event = IsChosen at player event
IsEventOf at (Save party) event = event ≡ Some (events.Save party)
IsEventOf at (Tick party) event = event ≡ Some (events.Tick party)
IsEventOf at (Restart party) event = event ≡ Some (events.Restart party)

-- a party whose save failed is down, and begins again at once
abbrev pub follow_up : Part → Outcome → Option Event
follow_up (Save party) SaveFault = Some (events.Restart party)
follow_up part outcome = None

-- there is memory for a choice, but for that of a player who is to move: he wants the list of all
-- legal turns
abbrev pub MayLackMemory : Moment → Part → Type 0
MayLackMemory at (Choose player) = (log : Log) × (seat_log at.world player ≡ Some log) × IsToMove log player
MayLackMemory at part = ⊥

-- the outcome ends the match: the slots of a party can't be restored, or there was no memory for
-- the event
abbrev pub ends : Outcome → Bool
ends (RestoreFault cause) = true
ends outcome = is_memory outcome

-- ---- what happens, over devices that may be honest or not

module _ (link_honest keepers_honest : Type 0) where
  -- an event makes its calls on the world, and comes to this outcome; the attempt after it is noted
  pub record Happens (old : Moment) (event : Event) (outcome : Outcome) (new : Moment) : Type 0 where
    pub calls : Calls link_honest keepers_honest old.world event outcome new.world
    pub notes : Notes old.dice (restarts_referee event) outcome (held_entries (held_of new.world roles.Referee))
        new.dice
    pub seed : new.seed ≡ old.seed

  -- the event happens, if there is one, and does not end the match
  abbrev pub GoesOn : Moment → Option Event → Moment → Type 0
  GoesOn old None new = new ≡ old
  GoesOn old (Some event) new = (outcome : Outcome) × Happens old event outcome new × (ends outcome ≡ false)

  -- the event of a part happens, if it has one, then what follows up; neither ends the match
  abbrev pub PlaysEvent : Moment → Part → Option Event → Moment → Type 0
  PlaysEvent old part None new = new ≡ old
  PlaysEvent old part (Some event) new =
      (outcome : Outcome) × (mid : Moment) × Happens old event outcome mid × (ends outcome ≡ false)
      × GoesOn mid (follow_up part outcome) new

  abbrev pub PlaysPart : Moment → Part → Moment → Type 0
  PlaysPart old part new = (event : Option Event) × IsEventOf old part event × PlaysEvent old part event new

  -- the parts are played, one after the other
  abbrev pub PlaysParts : Moment → List Part → Moment → Type 0
  PlaysParts old [] new = new ≡ old
  PlaysParts old (part ∷ parts) new = (mid : Moment) × PlaysPart old part mid × PlaysParts mid parts new

  -- the event of a part comes to an outcome that ends the match, or what follows up does
  abbrev pub EndsAt : Moment → Part → Outcome → Type 0
  EndsAt old part outcome =
      (event : Event) × (first : Outcome) × (mid : Moment) × IsEventOf old part (Some event)
      × Happens old event first mid × (ends outcome ≡ true)
      × ((outcome ≡ first)
      ⊎ ((next : Event) × (new : Moment) × (follow_up part first ≡ Some next) × Happens mid next outcome new))

  -- why a part is not played
  abbrev pub StopsAt : Moment → Part → LoopFault → Type 0
  StopsAt old part (Stopped outcome) = EndsAt old part outcome
  StopsAt old part Memory = MayLackMemory old part
  StopsAt old part _ = ⊥

  -- the first of the parts are played, and then the next one is not
  pub record StopsIn (old : Moment) (parts : List Part) (why : LoopFault) : Type 0 where
    pub before : List Part
    pub at : Part
    pub behind : List Part
    pub split : parts ≡ before ++ at ∷ behind
    pub mid : Moment
    pub played : PlaysParts old before mid
    pub stops : StopsAt mid at why
