-- Runs in which nothing lags behind: each process begins with what the slots restore then. They are
-- among the runs of processes. And a restart of a node over the slots as they are is among those of
-- nodes.
use Rattle.std.specs.Prelude.{◌≡◌, ⊤, Option, List, [], ◌∷◌, Contains}
use Rattle.std.proofs.Common.{◌∙◌, ap, inl, inr, subst}
use Rattle.bg_board.specs.declared.players.Player.{Player}
use Rattle.bg_party.specs.Views.{SeatView}
use Rattle.bg_referee.specs.Referee.{RefereeView}
use Rattle.bg_wire.specs.Parties.{party_of}
use Rattle.bg_wire.specs.Saved.SlotLaws.{Slots}
use Rattle.bg_protocol.specs.Protocol.Roles.{role}
use Rattle.bg_protocol.specs.Worlds.Nodes.{RefereeNodeRestarts, RefereeNodeView, SeatNodeRestarts, SeatNodeView}
use Rattle.bg_protocol.specs.Worlds.Views.{KeeperView}
use Rattle.bg_protocol.specs.declared.events.Event.{Event}
use Rattle.bg_protocol.specs.declared.events.Event.TheVariants as events
use Rattle.bg_protocol.specs.declared.events.Outcome.{Outcome}
use Rattle.bg_protocol.specs.declared.events.Outcome.TheVariants as outcomes
use Rattle.bg_protocol.specs.declared.roles.Role.{Role}
use Rattle.bg_protocol.specs.declared.roles.Role.TheVariants.{Referee as AsReferee, Seat as AsSeat, Watcher as AsWatcher}
use Rattle.bg_fences.specs.NodeActs.{NodeRestarts, referee_with, seat_with}
use Rattle.bg_fences.specs.ProcessCalls.{ProcessBegins, ProcessCalls}
use Rattle.bg_fences.specs.ProcessRuns.{ProcessesRun}
use Rattle.bg_fences.specs.SharedMatches.{Becomes, SharedMatch}
use Rattle.bg_fences.specs.SharedNodes.{SharedNodes, cores_of, slots_of, with_seat_nodes}
use Rattle.bg_fences.proofs.Lists.{cases_in, head_in, none_in}
use Rattle.bg_fences.proofs.SlotReads.{reads_only}

-- such a run: no moment but this one is read
abbrev pub PromptRun : SharedMatch → List (Event × Outcome) → SharedMatch → Type 0
PromptRun m [] n = n ≡ m
PromptRun m (h ∷ hs) n = (k : SharedMatch) × ProcessCalls (m ∷ []) m h.0 h.1 k × PromptRun k hs n

now_is_among : (m past : SharedMatch) (before : List SharedMatch) → Contains (m ∷ []) past → Contains (m ∷ before) past
now_is_among m past before c = elim (cases_in m past [] c) [
  | inl e ↦ subst (Contains (m ∷ before)) e (head_in m before)
  | inr k ↦ absurd (none_in past k)
]

begins : (m : SharedMatch) (before : List SharedMatch) (r : Role) (o : Outcome) (n : SharedMatch) → ProcessBegins (m ∷ []) m r o n → ProcessBegins (m ∷ before) m r o n
begins m before AsReferee outcomes.Restarted n h = (h.0, now_is_among m h.0 before h.1, h.2)
begins m before (AsSeat q) outcomes.Restarted n h = (h.0, now_is_among m h.0 before h.1, h.2)
begins m before (AsWatcher index) outcomes.Restarted n h = h
begins m before AsReferee _ n h = h
begins m before (AsSeat q) _ n h = h
begins m before (AsWatcher index) _ n h = h

calls : (m : SharedMatch) (before : List SharedMatch) (e : Event) (o : Outcome) (n : SharedMatch) → ProcessCalls (m ∷ []) m e o n → ProcessCalls (m ∷ before) m e o n
calls m before (events.Due word) o n h = h
calls m before (events.Take party pick word) o n h = h
calls m before (events.Choose q a) o n h = h
calls m before (events.Save party) o n h = h
calls m before (events.Tick party) o n h = h
calls m before (events.Restart party) o n h = begins m before (role party) o n h

pub prompt_run : (before : List SharedMatch) (m : SharedMatch) (hs : List (Event × Outcome)) (n : SharedMatch) → PromptRun m hs n → ProcessesRun before m hs n
prompt_run before m [] n r = r
prompt_run before m (h ∷ hs) n r = (r.0, calls m before h.0 h.1 r.0 r.1, prompt_run (m ∷ before) r.0 hs n r.2)

-- ---- nodes

pub referee_restarts_now : (m : SharedNodes) (before : List SharedNodes) (core : Option RefereeView) (old new : KeeperView) (after : RefereeNodeView) (cores : List (Option RefereeView)) (o : Outcome)
    → old.slots ≡ m.referee_slots → RefereeNodeRestarts ⊤ old (referee_with m core) o new after → Becomes m.referees core (after.core ∷ []) cores
    → NodeRestarts (m ∷ before) m AsReferee o (record m { referees = cores; referee_slots = new.slots })
referee_restarts_now m before core old new after cores o s h b = (
  core,
  old,
  new,
  after,
  cores,
  (m, m, head_in m before, head_in m before, s),
  h,
  b,
  ap (λ (x : Slots). record m { referees = cores; referee_slots = x }) (reads_only 0 m.id m.terms old new h.0.0 h.0.1 ∙ s),
)

pub seat_restarts_now : (m : SharedNodes) (before : List SharedNodes) (q : Player) (core : Option SeatView) (old new : KeeperView) (after : SeatNodeView) (cores : List (Option SeatView)) (o : Outcome)
    → old.slots ≡ slots_of m q → SeatNodeRestarts ⊤ old (seat_with m q core) o new after → Becomes (cores_of m q) core (after.core ∷ []) cores
    → NodeRestarts (m ∷ before) m (AsSeat q) o (with_seat_nodes m q cores new.slots)
seat_restarts_now m before q core old new after cores o s h b = (
  core,
  old,
  new,
  after,
  cores,
  (m, m, head_in m before, head_in m before, s),
  h,
  b,
  ap (with_seat_nodes m q cores) (reads_only (party_of q) m.id m.terms old new h.0.0 h.0.1 ∙ s),
)
