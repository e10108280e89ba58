-- What the process of one who watches does in a round.
use Rattle.std.specs.Prelude.{◌≡◌, ℕ, Bool, Some, List}
use Rattle.std.specs.Bool.{MatchBool}
use Rattle.bg_match.specs.Match.{Log}
use Rattle.bg_match.specs.Terms.{Terms}
use Rattle.bg_party.specs.Claims.{WatcherTicks}
use Rattle.bg_party.specs.Views.{WatcherView, fresh_watcher}
use Rattle.bg_protocol.specs.Devices.LinkCalls.{FollowerTakeCalls, FollowerTickCalls}
use Rattle.bg_protocol.specs.Worlds.Calls.{WatcherTakes}
use Rattle.bg_protocol.specs.Worlds.Views.{LinkView, link_view}
use Rattle.bg_protocol.specs.declared.devices.Link as link
use Rattle.bg_protocol.specs.declared.events.Event.{Event}
use Rattle.bg_protocol.specs.declared.events.Event.TheVariants as events
use Rattle.bg_protocol.specs.declared.events.Outcome.{Outcome}
use Rattle.bg_processes.specs.Rounds.{IsOver, ends_takes, most_parties, most_taken}
use Rattle.bg_processes.specs.Runs.{Repeats, Runs}
use Rattle.bg_processes.specs.declared.processes.rounds.Going.{Going}
use Rattle.bg_processes.specs.declared.processes.rounds.Going.TheVariants.{On, Over}
use Rattle.bg_processes.specs.declared.processes.watcher.WatcherProcess.{WatcherProcess}

-- the process at a moment: its party, its node, which is never down, and its link
pub record WatcherMoment : Type 0 where
  pub party : ℕ
  pub node : WatcherView
  pub link : LinkView

abbrev pub watcher_moment : {L : Type 0} → link.Ghosts L → WatcherProcess L → WatcherMoment
watcher_moment l p = record { party = p.party; node = p.node; link = link_view l p.link }

-- its record
abbrev pub log_of : WatcherMoment → Log
log_of at = (at.node).follower.log

module _ (honest : Type 0) where
  -- The event is a call of the node: it takes what comes first. It saves nothing, and begins anew
  -- with its process alone.
  abbrev pub WatcherCalls : WatcherMoment → Event → Outcome → LinkView → WatcherView → Type 0
  WatcherCalls at (events.Take party pick word) outcome link node =
      (party ≡ at.party) × (pick ≡ 0) × (word ≡ 0)
      × FollowerTakeCalls WatcherTakes honest (at.node).party at.link at.node pick outcome link node
  WatcherCalls at (events.Tick party) outcome link node =
      (party ≡ at.party) × FollowerTickCalls WatcherTicks honest most_parties at.link at.node outcome link node
  WatcherCalls at event outcome link node = ⊥

  -- an event happens at the process
  pub record WatcherHappens (old : WatcherMoment) (event : Event) (outcome : Outcome) (new : WatcherMoment) : Type 0 where
    pub calls : WatcherCalls old event outcome new.link new.node
    pub party : new.party ≡ old.party

-- a datagram is taken
abbrev pub take_at : WatcherMoment → Event
take_at at = events.Take at.party 0 0

-- it sends
abbrev pub tick_at : WatcherMoment → Event
tick_at at = events.Tick at.party

module _ (honest : Type 0) where
  -- it sends where a tick is due
  abbrev pub SendsWhere : Bool → WatcherMoment → WatcherMoment → Type 0
  SendsWhere tick old new =
      MatchBool tick ((outcome : Outcome) × WatcherHappens honest old (tick_at old) outcome new) (new ≡ old)

  -- the process ends where the match is over, and else sends where a tick is due
  abbrev pub EndsRound : Bool → WatcherMoment → Going → WatcherMoment → Type 0
  EndsRound tick old Over new = IsOver (Some (log_of old)) × (new ≡ old)
  EndsRound tick old On new = (IsOver (Some (log_of old)) → ⊥) × SendsWhere tick old new

  -- A round, in which a tick is due or not: datagrams are taken, and then it ends or sends.
  pub record PlaysWatcherRound
      (old : WatcherMoment) (tick : Bool) (result : Going) (new : WatcherMoment) : Type 0 where
    pub taken : WatcherMoment
    pub takes : Repeats (WatcherHappens honest) take_at ends_takes most_taken old taken
    pub ends : EndsRound tick taken result new

  -- what happens in a round is a run of the node, event by event
  abbrev pub RunsWatcher : WatcherMoment → WatcherMoment → Type 0
  RunsWatcher old new = (happened : List (Event × Outcome)) × Runs (WatcherHappens honest) old happened new

-- the process begins with no entry, whatever was before
abbrev pub WatcherBegins : ℕ → ℕ → Terms → LinkView → WatcherMoment → Type 0
WatcherBegins party id terms link new =
    new ≡ record { party = party; node = fresh_watcher party id terms; link = link }
