-- What the process of a seat does in a round, and when its player chooses.
use Rattle.std.specs.Prelude.{◌≡◌, ◌==◌, ◌||◌, ◌&&◌, not, nat_le, nat_lt, ℕ, Bool, true, false, if◌then◌else◌}
use Rattle.std.specs.Prelude.{Option, Some, None, List, Result, Ok, Err, MatchOption, MatchResult, is_none}
use Rattle.std.specs.Bool.{MatchBool}
use Rattle.bg_board.specs.declared.players.Player.{Player}
use Rattle.bg_match.specs.Match.{ActsAfter, Log}
use Rattle.bg_match.specs.Terms.{Terms}
use Rattle.bg_match.specs.declared.actions.Action.{Action}
use Rattle.bg_match.specs.declared.phases.Actor.TheVariants.{Seat}
use Rattle.bg_wire.specs.Parties.{party_of}
use Rattle.bg_protocol.specs.Worlds.Nodes.{SeatNodeChooses, SeatNodeRestarts, SeatNodeSaves, SeatNodeTakes, SeatNodeTicks, SeatNodeView, fresh_seat_node, seat_claim, seat_node_of}
use Rattle.bg_protocol.specs.Worlds.Starts.{seat_log}
use Rattle.bg_protocol.specs.Worlds.Views.{KeeperView, LinkView, keeper_view, link_view}
use Rattle.bg_protocol.specs.declared.devices.Keeper as keeper
use Rattle.bg_protocol.specs.declared.devices.Link as link
use Rattle.bg_protocol.specs.declared.events.Event.{Event}
use Rattle.bg_protocol.specs.declared.events.Event.TheVariants as events
use Rattle.bg_protocol.specs.declared.events.Outcome.{Outcome}
use Rattle.bg_protocol.specs.declared.events.Outcome.TheVariants as outcomes
use Rattle.bg_auto.specs.Attempts.{held_entries}
use Rattle.bg_processes.specs.Rounds.{GoesWhere, IsOver, IsOverAndSaved, Tells, count_of, ends_takes, keeps_all, most_parties, most_taken, saved_after}
use Rattle.bg_processes.specs.Runs.{Repeats, Restarts, Runs, Saves}
use Rattle.bg_processes.specs.declared.processes.rounds.Going.{Going}
use Rattle.bg_processes.specs.declared.processes.seat.SeatProcess.{SeatProcess}
use Rattle.bg_processes.specs.declared.processes.seat.notes.SeatNotes.{SeatNotes}

-- ---- the process at a moment

-- its player, its node with its link and its keeper, and what it notes: how many entries are saved,
-- and whether its last claim is to be saved still
pub record SeatMoment : Type 0 where
  pub player : Player
  pub node : SeatNodeView
  pub link : LinkView
  pub keeper : KeeperView
  pub notes : SeatNotes

abbrev pub seat_moment : {L K : Type 0} → link.Ghosts L → keeper.Ghosts K → SeatProcess L K → SeatMoment
seat_moment l k p = record {
  player = p.player;
  node = seat_node_of p.node;
  link = link_view l p.link;
  keeper = keeper_view k p.keeper;
  notes = p.notes;
}

-- its record, where it is up
abbrev pub log_of : SeatMoment → Option Log
log_of at = seat_log at.node.core

-- how many entries it holds: none where it is down
abbrev pub held_at : SeatMoment → ℕ
held_at at = count_of (held_entries (log_of at))

-- a claim that a record of so many entries does not answer
abbrev pub unanswered : ℕ → Option (ℕ × Action) → Option (ℕ × Action)
unanswered held None = None
unanswered held (Some claim) = if nat_lt held claim.0 then Some claim else None

-- its claim that its record does not answer yet
abbrev pub open_claim_at : SeatMoment → Option (ℕ × Action)
open_claim_at at = unanswered (held_at at) (seat_claim at.node.core)

-- by its record its player acts, and it has no open claim
abbrev pub IsToAct : SeatMoment → Type 0
IsToAct at =
    MatchOption (log_of at) ⊥ (λ log. ActsAfter log.terms log.entries (Seat at.player))
    × (open_claim_at at ≡ None)

-- ---- an event

-- an action was claimed
abbrev pub is_chosen : Outcome → Bool
is_chosen (outcomes.Chose (Ok number)) = true
is_chosen outcome = false

-- the claim is the one that was made
abbrev pub is_claim_of : Outcome → Option (ℕ × Action) → Bool
is_claim_of (outcomes.Chose (Ok number)) (Some claim) = claim.0 == number
is_claim_of outcome claim = false

-- its last claim is to be saved still after an event, or was before
abbrev pub waits_after : Bool → Event → Outcome → Bool
waits_after waits event outcome = if keeps_all event outcome then false else if is_chosen outcome then true else waits

-- what is noted of an event, after which so many entries are held
pub record NotesOfSeat
    (old : SeatNotes) (event : Event) (outcome : Outcome) (held : Option ℕ) (new : SeatNotes) : Type 0 where
  pub saved : new.saved ≡ saved_after old.saved event outcome held
  pub claim_waits : new.claim_waits ≡ waits_after old.claim_waits event outcome

module _ (link_honest keeper_honest : Type 0) where
  -- The event is a call of the node: it takes what comes first.
  abbrev pub SeatCalls : SeatMoment → Event → Outcome → LinkView → KeeperView → SeatNodeView → Type 0
  SeatCalls at (events.Due word) outcome link keeper node = ⊥
  SeatCalls at (events.Take party pick word) outcome link keeper node =
      (party ≡ party_of at.player) × (pick ≡ 0) × (word ≡ 0)
      × SeatNodeTakes link_honest at.link at.node pick outcome link node × (keeper ≡ at.keeper)
  SeatCalls at (events.Choose player action) outcome link keeper node =
      (player ≡ at.player) × SeatNodeChooses at.node action outcome node × (link ≡ at.link) × (keeper ≡ at.keeper)
  SeatCalls at (events.Save party) outcome link keeper node =
      (party ≡ party_of at.player) × SeatNodeSaves keeper_honest at.keeper at.node outcome keeper node
      × (link ≡ at.link)
  SeatCalls at (events.Tick party) outcome link keeper node =
      (party ≡ party_of at.player) × SeatNodeTicks link_honest most_parties at.link at.node outcome link node
      × (keeper ≡ at.keeper)
  SeatCalls at (events.Restart party) outcome link keeper node =
      (party ≡ party_of at.player) × SeatNodeRestarts keeper_honest at.keeper at.node outcome keeper node
      × (link ≡ at.link)

  -- an event happens at the process
  pub record SeatHappens (old : SeatMoment) (event : Event) (outcome : Outcome) (new : SeatMoment) : Type 0 where
    pub calls : SeatCalls old event outcome new.link new.keeper new.node
    pub notes : NotesOfSeat old.notes event outcome (held_entries (log_of new)) new.notes
    pub player : new.player ≡ old.player

-- ---- a round

-- a datagram is taken
abbrev pub take_at : SeatMoment → Event
take_at at = events.Take (party_of at.player) 0 0

-- the record answers a claim, which the last save has as an open one
abbrev pub is_answered : ℕ → ℕ → Option (ℕ × Action) → Bool
is_answered held saved None = false
is_answered held saved (Some claim) = nat_le claim.0 held && nat_lt saved claim.0

-- A save is worth it: the last claim is to be saved still, or the match is over and not all saved,
-- or a tick is due and the last claim was answered. So an answer waits for the next claim, whose
-- save has it too, but no longer than until a tick.
abbrev pub WantsSave : SeatMoment → Bool → Bool → Type 0
WantsSave at tick wanted =
    (over : Bool) × Tells over (IsOver (log_of at))
    × (wanted ≡ (at.notes.claim_waits
    || ((tick && is_answered (held_at at) at.notes.saved (seat_claim at.node.core))
    || (over && not (held_at at == at.notes.saved)))))

module _ (link_honest keeper_honest : Type 0) where
  -- it saves, where that is worth it; Ok says whether that was written
  abbrev pub SavesWorth : SeatMoment → Bool → Result Bool Outcome → SeatMoment → Type 0
  SavesWorth old tick result new =
      (wanted : Bool) × WantsSave old tick wanted
      × MatchBool wanted (Saves (SeatHappens link_honest keeper_honest) (party_of old.player) old result new)
      ((result ≡ Ok false) × (new ≡ old))

  -- where it is down it is restarted, else it saves where that is worth it
  abbrev pub RestartsOrSaves : SeatMoment → Bool → Result Bool Outcome → SeatMoment → Type 0
  RestartsOrSaves old tick result new =
      MatchBool (is_none (log_of old))
      (Restarts (SeatHappens link_honest keeper_honest) (party_of old.player) old result new)
      (SavesWorth old tick result new)

  -- it sends where a tick is due
  abbrev pub SendsWhere : Bool → SeatMoment → SeatMoment → Type 0
  SendsWhere tick old new =
      MatchBool tick
      ((outcome : Outcome) × SeatHappens link_honest keeper_honest old (events.Tick (party_of old.player)) outcome new)
      (new ≡ old)

  -- A round, in which a tick is due or not: datagrams are taken, what is worth it is saved, and
  -- where a tick is due it sends; where the seat is down, a restart is all that happens at it. It
  -- ends where the match is over and all of it saved, and Err says why the process ends.
  pub record PlaysSeatRound
      (old : SeatMoment) (tick : Bool) (result : Result Going Outcome) (new : SeatMoment) : Type 0 where
    pub taken : SeatMoment
    pub takes : Repeats (SeatHappens link_honest keeper_honest) take_at ends_takes most_taken old taken
    pub kept : SeatMoment
    pub saved : Result Bool Outcome
    pub saves : RestartsOrSaves taken tick saved kept
    pub ends : MatchResult saved
        (λ _. SendsWhere tick kept new
        × MatchResult result (GoesWhere (IsOverAndSaved (log_of new) new.notes.saved)) (λ _. ⊥))
        (λ why. (result ≡ Err why) × (new ≡ kept))

  -- ---- a choice

  -- the claim is saved, and then sent; where it is lost with a save that failed, that is what the
  -- choice came to, and an earlier claim may be open again
  abbrev pub SavesClaim : SeatMoment → Outcome → Result Outcome Outcome → SeatMoment → Type 0
  SavesClaim old chosen result new =
      (saved : Result Bool Outcome) × (kept : SeatMoment)
      × Saves (SeatHappens link_honest keeper_honest) (party_of old.player) old saved kept
      × MatchResult saved
      (λ _. MatchBool (is_claim_of chosen (open_claim_at kept)) (SendsWhere true kept new × (result ≡ Ok chosen))
      ((result ≡ Ok outcomes.SaveFault) × (new ≡ kept)))
      (λ why. (result ≡ Err why) × (new ≡ kept))

  -- the player chooses; Ok says what that came to, Err why the process ends
  abbrev pub PlaysChoice : SeatMoment → Action → Result Outcome Outcome → SeatMoment → Type 0
  PlaysChoice old action result new =
      (outcome : Outcome) × (mid : SeatMoment)
      × SeatHappens link_honest keeper_honest old (events.Choose old.player action) outcome mid
      × MatchBool (is_chosen outcome) (SavesClaim mid outcome result new) ((result ≡ Ok outcome) × (new ≡ mid))

  -- what happens in a round, or after a choice, is a run of the node, event by event
  abbrev pub RunsSeat : SeatMoment → SeatMoment → Type 0
  RunsSeat old new = (happened : List (Event × Outcome)) × Runs (SeatHappens link_honest keeper_honest) old happened new

-- ---- the beginning

-- the process begins with a restart of its node, whatever its keeper's slots have
pub record SeatBegins
    (honest : Type 0) (player : Player) (id : ℕ) (terms : Terms) (link : LinkView) (keeper : KeeperView)
    (outcome : Outcome) (new : SeatMoment) : Type 0 where
  pub player_is : new.player ≡ player
  pub restarts : SeatNodeRestarts honest keeper (fresh_seat_node player id terms) outcome new.keeper new.node
  pub link_is : new.link ≡ link
  pub notes_are : new.notes ≡ record { saved = held_at new; claim_waits = false }
