-- Devices whose plans are empty do not fail in any event.
use Rattle.std.specs.Prelude.{◌≡◌, ℕ, ◌+◌, Bool, true, false, List, [], ◌∷◌, Option, Some, None, Result, Ok, Err, IfSome, MatchOption, MatchResult, nat_lt, slice_get}
use Rattle.std.specs.Bool.{MatchBool}
use Rattle.std.specs.Global.{Vec}
use Rattle.std.proofs.Common.{refl, sym, ◌∙◌, subst}
use Rattle.arrayvec.specs.ArrayVec.{ArrayVec}
use Rattle.bg_board.specs.declared.players.Player.{Player}
use Rattle.bg_board.specs.declared.players.Player.TheVariants.{X, O}
use Rattle.bg_match.specs.Terms.{Terms}
use Rattle.bg_match.specs.declared.actions.Action.{Action}
use Rattle.bg_wire.specs.Entries.Codes.{referee}
use Rattle.bg_wire.specs.Parties.{party_of}
use Rattle.bg_wire.specs.Saved.SavedText.{SavedParts}
use Rattle.bg_wire.specs.declared.faults.SaveRefusal.{SaveRefusal}
use Rattle.bg_wire.specs.declared.faults.SaveRefusal.TheVariants as save_refusals
use Rattle.bg_wire.specs.declared.packets.Packet.{Packet}
use Rattle.bg_wire.specs.declared.saves.Saved.{Saved}
use Rattle.bg_wire.specs.declared.saves.slots.Slot.{Slot}
use Rattle.bg_wire.specs.declared.saves.slots.Slot.TheVariants as slots
use Rattle.bg_referee.specs.Referee.{RefereeView, referee_after_save}
use Rattle.bg_party.specs.Views.{SeatView, seat_after_save}
use Rattle.bg_referee.specs.declared.outcomes.TakeOutcome.{TakeOutcome}
use Rattle.bg_referee.specs.declared.outcomes.TakeOutcome.TheVariants as takes
use Rattle.bg_protocol.specs.Worlds.Calls.{Calls, ChooseCalls, DueCalls, RestartCalls, SaveCalls, TakeCalls, TickCalls, referee_parts, seat_parts}
use Rattle.bg_protocol.specs.Devices.DeviceCalls.{Posts, ReadsOnce, Receives, WritesOnce, datagram_of, link_outcome, read_outcome}
use Rattle.bg_protocol.specs.Devices.Honesty.{CountsFailed}
use Rattle.bg_protocol.specs.Devices.Handed.{handed}
use Rattle.bg_protocol.specs.Devices.KeeperCalls.{ReadsBoth, ReadsSecond, SaveCallsAt, SaveGoesOn}
use Rattle.bg_protocol.specs.Devices.LinkCalls.{AnswerCalls, ComesTo, RefereeHandles, RefereeTakeCalls, SendCalls, to_referee}
use Rattle.bg_protocol.specs.Devices.Plan.{KeeperPlan, ReadsBy, SendsBy, WritesBy, failure_at, read_failure_at, tear_at}
use Rattle.bg_protocol.specs.Protocol.Roles.{role}
use Rattle.bg_protocol.specs.Worlds.Simulations.{NoneFailed}
use Rattle.bg_protocol.specs.Worlds.Views.{KeeperView, LinkView, WorldView, parties, seat_core, seat_keeper, with_seat_core, with_seat_keeper}
use Rattle.bg_protocol.specs.Worlds.WorldRuns.{CallsAll}
use Rattle.bg_protocol.specs.declared.devices.DeviceFault.{DeviceFault}
use Rattle.bg_protocol.specs.declared.events.Event.{Event}
use Rattle.bg_protocol.specs.declared.events.Event.TheVariants as events
use Rattle.bg_protocol.specs.declared.events.Outcome.{Outcome}
use Rattle.bg_protocol.specs.declared.events.Outcome.TheVariants as outcomes
use Rattle.bg_protocol.specs.declared.devices.plans.FailSend.{FailSend}
use Rattle.bg_protocol.specs.declared.roles.Role.{Role}
use Rattle.bg_protocol.specs.declared.roles.Role.TheVariants as roles
use Rattle.bg_protocol.proofs.Deliveries.Unplanned.{no_failures, unplanned_read, unplanned_send, unplanned_write}

-- by its plan the device never fails, and it has not
pub record IsSureLink (l : LinkView) : Type 0 where
  pub plan : l.plan ≡ Some []
  pub faults : l.faults ≡ 0

pub record IsSureKeeper (k : KeeperView) : Type 0 where
  pub party : ℕ
  pub plan : k.plan ≡ Some (no_failures party)
  pub faults : k.faults ≡ 0

-- so it is with all devices of a world
pub record IsSure (w : WorldView) : Type 0 where
  pub link : IsSureLink w.link
  pub referee_keeper : IsSureKeeper w.referee_keeper
  pub x_keeper : IsSureKeeper w.x_keeper
  pub o_keeper : IsSureKeeper w.o_keeper

pub none_failed : (w : WorldView) → IsSure w → NoneFailed w
none_failed w sure = record {
  link = (sure.link).faults;
  referee_keeper = (sure.referee_keeper).faults;
  x_keeper = (sure.x_keeper).faults;
  o_keeper = (sure.o_keeper).faults;
}

-- ---- one call

receives : (honest : Type 0) (old : LinkView) (party pick : ℕ) (hand : Result Packet Outcome) (new : LinkView)
    → Receives honest old party pick hand new → IsSureLink old → IsSureLink new
receives honest old party pick hand new h q = record {
  plan = h.plan ∙ q.plan;
  faults =
      subst (λ (r : Result (Option (ArrayVec ℕ)) DeviceFault). CountsFailed old.faults new.faults r) gave counted
      ∙ q.faults;
}
  where
    gave : new.taken ≡ Ok (handed old.sent party pick)
    gave = subst (λ (m : Option (List FailSend)). IfSome m (λ _. new.taken ≡ Ok (handed old.sent party pick))) q.plan
        h.planned

    counted : CountsFailed old.faults new.faults new.taken
    counted = subst (λ (m : Option (List FailSend)). IfSome m (λ _. CountsFailed old.faults new.faults new.taken)) q.plan
        h.counted

posts : (honest : Type 0) (old : LinkView) (to : ℕ) (p : Packet) (answer : Result (Unit {0}) DeviceFault)
    (new : LinkView) → Posts honest old to p answer new → IsSureLink old → IsSureLink new
posts honest old to p answer new h q = record {
  plan = h.plan ∙ q.plan;
  faults = unplanned_send new.sends old.sent (datagram_of to p) new.sent answer old.faults new.faults by counted
      ∙ q.faults;
}
  where
    by : SendsBy (failure_at [] new.sends) old.sent (datagram_of to p) new.sent answer
    by = subst (λ (m : Option (List FailSend)). IfSome m (λ failing. SendsBy (failure_at failing new.sends) old.sent
        (datagram_of to p) new.sent answer)) q.plan h.planned

    counted : CountsFailed old.faults new.faults answer
    counted = subst (λ (m : Option (List FailSend)). IfSome m (λ _. CountsFailed old.faults new.faults answer)) q.plan
        h.counted

writes : (honest : Type 0) (old : KeeperView) (slot : Slot) (text : List ℕ) (answer : Result (Unit {0}) DeviceFault)
    (new : KeeperView) → WritesOnce honest old slot text answer new → IsSureKeeper old → IsSureKeeper new
writes honest old slot text answer new h q = record {
  party = q.party;
  plan = h.plan ∙ q.plan;
  faults = unplanned_write q.party new.writes old.slots slot text new.slots answer old.faults new.faults by counted
      ∙ q.faults;
}
  where
    by : WritesBy (tear_at (no_failures q.party) new.writes) old.slots slot text new.slots answer
    by = subst (λ (m : Option KeeperPlan). IfSome m (λ p. WritesBy (tear_at p new.writes) old.slots slot text new.slots
        answer)) q.plan h.planned

    counted : CountsFailed old.faults new.faults answer
    counted = subst (λ (m : Option KeeperPlan). IfSome m (λ _. CountsFailed old.faults new.faults answer)) q.plan
        h.counted

reads : (honest : Type 0) (old : KeeperView) (slot : Slot) (answer : Result (Vec ℕ) DeviceFault) (new : KeeperView)
    → ReadsOnce honest old slot answer new → IsSureKeeper old → IsSureKeeper new
reads honest old slot answer new h q = record {
  party = q.party;
  plan = h.plan ∙ q.plan;
  faults = unplanned_read q.party new.reads old.slots slot answer old.faults new.faults by counted ∙ q.faults;
}
  where
    by : ReadsBy (read_failure_at (no_failures q.party) new.reads) old.slots slot answer
    by = subst (λ (m : Option KeeperPlan). IfSome m (λ p. ReadsBy (read_failure_at p new.reads) old.slots slot answer))
        q.plan h.planned

    counted : CountsFailed old.faults new.faults answer
    counted = subst (λ (m : Option KeeperPlan). IfSome m (λ _. CountsFailed old.faults new.faults answer)) q.plan
        h.counted

-- ---- the calls of a party

same_link : (old new : LinkView) → new ≡ old → IsSureLink old → IsSureLink new
same_link old new e q = subst IsSureLink (sym e) q

same_keeper : (old new : KeeperView) → new ≡ old → IsSureKeeper old → IsSureKeeper new
same_keeper old new e q = subst IsSureKeeper (sym e) q

-- the link stays so while these packets are sent
abbrev StaySure : Type 0 → ℕ → List (ℕ × Packet) → Outcome → LinkView → Type 0
StaySure honest parties packets result new =
    (before : ℕ) (old : LinkView) → SendCalls honest parties before old packets result new → IsSureLink old
    → IsSureLink new

sends : (honest : Type 0) (parties before : ℕ) (old : LinkView) (packets : List (ℕ × Packet)) (result : Outcome)
    (new : LinkView) → SendCalls honest parties before old packets result new → IsSureLink old → IsSureLink new
sends honest parties before old [] result new h q = same_link old new h.1 q
sends honest parties before old (packet ∷ packets) result new h q =
    go (λ b mid g k. sends honest parties b mid packets result new g k) (nat_lt packet.0 parties) h
  where
    after : StaySure honest parties packets result new → (answer : Result (Unit {0}) DeviceFault) (mid : LinkView)
        → IsSureLink mid
        → MatchResult answer (λ _. SendCalls honest parties (before + 1) mid packets result new)
        (λ fault. (result ≡ link_outcome fault) × (new ≡ mid)) → IsSureLink new
    after rest (Ok done) mid k g = rest (before + 1) mid g k
    after rest (Err fault) mid k g = same_link mid new g.1 k

    go : StaySure honest parties packets result new → (b : Bool) → MatchBool b
        ((answer : Result (Unit {0}) DeviceFault) × (mid : LinkView) × Posts honest old packet.0 packet.1 answer mid
        × MatchResult answer (λ _. SendCalls honest parties (before + 1) mid packets result new)
        (λ fault. (result ≡ link_outcome fault) × (new ≡ mid)))
        (SendCalls honest parties before old packets result new) → IsSureLink new
    go rest true g = after rest g.0 g.1 (posts honest old packet.0 packet.1 g.0 g.1 g.2 q) g.3
    go rest false g = rest before old g q

answers : (honest : Type 0) (parties : ℕ) (old : LinkView) (took : TakeOutcome) (result : Outcome) (new : LinkView)
    → AnswerCalls honest parties old took result new → IsSureLink old → IsSureLink new
answers honest parties old (takes.Answer to p) result new h q = go (nat_lt to parties) h
  where
    go : (b : Bool) → MatchBool b
        ((answer : Result (Unit {0}) DeviceFault) × Posts honest old to p answer new
        × ComesTo (outcomes.Took (takes.Answer to p)) answer result)
        ((result ≡ outcomes.Took (takes.Answer to p)) × (new ≡ old)) → IsSureLink new
    go true g = posts honest old to p g.0 new g.1 q
    go false g = same_link old new g.1 q
answers honest parties old _ result new h q = same_link old new h.1 q

handles : (honest : Type 0) (parties : ℕ) (old : LinkView) (core : RefereeView) (word : ℕ)
    (hand : Result Packet Outcome) (result : Outcome) (new : LinkView) (after : RefereeView)
    → RefereeHandles honest parties old core word hand result new after → IsSureLink old → IsSureLink new
handles honest parties old core word (Err why) result new after h q = same_link old new h.1 q
handles honest parties old core word (Ok p) result new after h q = answers honest parties old h.0 result new h.2 q

saves_at : {C : Type 0} (parts_of : C → SavedParts) (after_save : C → ℕ → C) (honest : Type 0) (old : KeeperView)
    (core : Option C) (result : Outcome) (new : KeeperView) (after : Option C)
    → SaveCallsAt parts_of after_save honest old core result new after → IsSureKeeper old → IsSureKeeper new
saves_at parts_of after_save honest old None result new after h q = same_keeper old new h.1 q
saves_at {C} parts_of after_save honest old (Some core) result new after h q = go h.0 h.2
  where
    go : (next : Result (Slot × ℕ × Vec ℕ) SaveRefusal)
        → SaveGoesOn after_save honest old core next result new after → IsSureKeeper new
    go (Ok next) g = writes honest old next.0 next.2.items g.0 new g.1 q
    go (Err save_refusals.SavesSpent) g = same_keeper old new g.1 q
    go (Err save_refusals.Memory) g = same_keeper old new g.1 q

reads_both : (honest : Type 0) (party id : ℕ) (terms : Terms) (old : KeeperView)
    (restored : Result (Option Saved) Outcome) (new : KeeperView)
    → ReadsBoth honest party id terms old restored new → IsSureKeeper old → IsSureKeeper new
reads_both honest party id terms old restored new h q =
    go h.0 (reads honest old slots.Zero h.0 h.1 h.2 q) h.3
  where
    go : (answer : Result (Vec ℕ) DeviceFault) → IsSureKeeper h.1
        → MatchResult answer (λ zero. ReadsSecond honest party id terms h.1 zero.items restored new)
        (λ fault. (restored ≡ Err (read_outcome fault)) × (new ≡ h.1)) → IsSureKeeper new
    go (Ok zero) k g = reads honest h.1 slots.One g.0 new g.1 k
    go (Err fault) k g = same_keeper h.1 new g.1 k

-- ---- one event

same : (old new : WorldView) → new ≡ old → IsSure old → IsSure new
same old new e q = subst IsSure (sym e) q

cases : {A P G : Type 0} {Q : A → Type 0} (m : Option A) → MatchOption m P Q → (P → G) → ((a : A) → Q a → G) → G
cases None h p q = p h
cases (Some a) h p q = q a h

-- what an event leaves that changed the link alone beside the cores, or one keeper
with_link : (w : WorldView) (link : LinkView) → IsSure w → IsSureLink link → IsSure (record w { link = link })
with_link w link q k = record {
  link = k;
  referee_keeper = q.referee_keeper;
  x_keeper = q.x_keeper;
  o_keeper = q.o_keeper;
}

same_devices : (w v : WorldView) → v.link ≡ w.link → v.referee_keeper ≡ w.referee_keeper → v.x_keeper ≡ w.x_keeper
    → v.o_keeper ≡ w.o_keeper → IsSure w → IsSure v
same_devices w v link referee x o q = record {
  link = subst IsSureLink (sym link) q.link;
  referee_keeper = subst IsSureKeeper (sym referee) q.referee_keeper;
  x_keeper = subst IsSureKeeper (sym x) q.x_keeper;
  o_keeper = subst IsSureKeeper (sym o) q.o_keeper;
}

-- the world with another core of a seat
with_core : (w : WorldView) (player : Player) (core : Option SeatView) → IsSure w
    → IsSure (with_seat_core w player core)
with_core w X core q = same_devices w (record w { x = core }) refl refl refl refl q
with_core w O core q = same_devices w (record w { o = core }) refl refl refl refl q

due : (old : WorldView) (word : ℕ) (o : Outcome) (new : WorldView) → DueCalls old word o new → IsSure old → IsSure new
due old word o new h q =
    cases old.referee h (λ g. same old new g.1 q)
    (λ core g. same _ new g.4 (same_devices old (record old { referee = Some g.1 }) refl refl refl refl q))

takes_at : (honest : Type 0) (old : WorldView) (r : Role) (party pick word : ℕ) (o : Outcome) (new : WorldView)
    → TakeCalls honest old r party pick word o new → IsSure old → IsSure new
takes_at honest old roles.Referee party pick word o new h q =
    cases old.referee h (λ g. same old new g.1 q)
    (λ core g. same _ new g.3 (same_devices (record old { link = g.0 }) (record old { link = g.0; referee = Some g.1 })
    refl refl refl refl (with_link old g.0 q (taken core g.0 g.1 g.2))))
  where
    taken : (core : RefereeView) (link : LinkView) (after : RefereeView)
        → RefereeTakeCalls honest (parties old) old.link core pick word o link after → IsSureLink link
    taken core link after g =
        handles honest (parties old) g.1 core word g.0 o link after g.3
        (receives honest old.link referee pick g.0 g.1 g.2 q.link)
takes_at honest old (roles.Seat player) party pick word o new h q =
    cases (seat_core old player) h (λ g. same old new g.1 q)
    (λ core g. same _ new g.3 (with_core (record old { link = g.0 }) player (Some g.1)
    (with_link old g.0 q (receives honest old.link party pick g.2.0 g.0 g.2.1 q.link))))
takes_at honest old (roles.Watcher index) party pick word o new h q =
    cases (slice_get old.watchers index) h (λ g. same old new g.1 q)
    (λ core g. same _ new g.3 (same_devices (record old { link = g.0 }) _ refl refl refl refl
    (with_link old g.0 q (receives honest old.link party pick g.2.0 g.0 g.2.1 q.link))))

chooses : (old : WorldView) (player : Player) (action : Action) (o : Outcome) (new : WorldView)
    → ChooseCalls old player action o new → IsSure old → IsSure new
chooses old player action o new h q =
    cases (seat_core old player) h (λ g. same old new g.1 q)
    (λ core g. same _ new g.4 (with_core old player (Some g.1) q))

-- the world with another core and another keeper of a seat
with_keeper : (w : WorldView) (player : Player) (core : Option SeatView) (keeper : KeeperView) → IsSure w
    → IsSureKeeper keeper → IsSure (with_seat_keeper (with_seat_core w player core) player keeper)
with_keeper w X core keeper q k = record {
  link = q.link;
  referee_keeper = q.referee_keeper;
  x_keeper = k;
  o_keeper = q.o_keeper;
}
with_keeper w O core keeper q k = record {
  link = q.link;
  referee_keeper = q.referee_keeper;
  x_keeper = q.x_keeper;
  o_keeper = k;
}

of_seat : (w : WorldView) (player : Player) → IsSure w → IsSureKeeper (seat_keeper w player)
of_seat w X q = q.x_keeper
of_seat w O q = q.o_keeper

-- the world with another core and another keeper of the referee
with_referee : (w : WorldView) (core : Option RefereeView) (keeper : KeeperView) → IsSure w → IsSureKeeper keeper
    → IsSure (record w { referee_keeper = keeper; referee = core })
with_referee w core keeper q k = record {
  link = q.link;
  referee_keeper = k;
  x_keeper = q.x_keeper;
  o_keeper = q.o_keeper;
}

saves : (honest : Type 0) (old : WorldView) (r : Role) (o : Outcome) (new : WorldView)
    → SaveCalls honest old r o new → IsSure old → IsSure new
saves honest old roles.Referee o new h q =
    same _ new h.3 (with_referee old h.1 h.0 q
    (saves_at referee_parts referee_after_save honest old.referee_keeper old.referee o h.0 h.1 h.2 q.referee_keeper))
saves honest old (roles.Seat player) o new h q =
    same _ new h.3 (with_keeper old player h.1 h.0 q
    (saves_at seat_parts seat_after_save honest (seat_keeper old player) (seat_core old player) o h.0 h.1 h.2
    (of_seat old player q)))
saves honest old (roles.Watcher index) o new h q = same old new h.1 q

ticks : (honest : Type 0) (old : WorldView) (r : Role) (o : Outcome) (new : WorldView)
    → TickCalls honest old r o new → IsSure old → IsSure new
ticks honest old roles.Referee o new h q =
    cases old.referee h (λ g. same old new g.1 q)
    (λ core g. same _ new g.3 (same_devices (record old { link = g.0 }) _ refl refl refl refl
    (with_link old g.0 q (sends honest (parties old) 0 old.link g.2.0 o g.0 g.2.2 q.link))))
ticks honest old (roles.Seat player) o new h q =
    cases (seat_core old player) h (λ g. same old new g.1 q)
    (λ core g. same _ new g.3 (with_core (record old { link = g.0 }) player (Some g.1)
    (with_link old g.0 q (sends honest (parties old) 0 old.link (to_referee g.2.0) o g.0 g.2.2 q.link))))
ticks honest old (roles.Watcher index) o new h q =
    cases (slice_get old.watchers index) h (λ g. same old new g.1 q)
    (λ core g. same _ new g.3 (same_devices (record old { link = g.0 }) _ refl refl refl refl
    (with_link old g.0 q (sends honest (parties old) 0 old.link (to_referee g.2.0) o g.0 g.2.2 q.link))))

restarts : (honest : Type 0) (old : WorldView) (r : Role) (party : ℕ) (o : Outcome) (new : WorldView)
    → RestartCalls honest old r party o new → IsSure old → IsSure new
restarts honest old roles.Referee party o new h q =
    same _ new h.3 (with_referee old h.1 h.0 q
    (reads_both honest referee old.id old.terms old.referee_keeper h.2.0 h.0 h.2.1 q.referee_keeper))
restarts honest old (roles.Seat player) party o new h q =
    same _ new h.3 (with_keeper old player h.1 h.0 q
    (reads_both honest (party_of player) old.id old.terms (seat_keeper old player) h.2.0 h.0 h.2.1
    (of_seat old player q)))
restarts honest old (roles.Watcher index) party o new h q =
    cases (slice_get old.watchers index) h (λ g. same old new g.1 q)
    (λ core g. same _ new g.1 (same_devices old _ refl refl refl refl q))

stays_sure : (link_honest keepers_honest : Type 0) (old : WorldView) (event : Event) (o : Outcome) (new : WorldView)
    → Calls link_honest keepers_honest old event o new → IsSure old → IsSure new
stays_sure lh kh old (events.Due word) o new h q = due old word o new h q
stays_sure lh kh old (events.Take party pick word) o new h q =
    takes_at lh old (role party) party pick word o new h q
stays_sure lh kh old (events.Choose player action) o new h q = chooses old player action o new h q
stays_sure lh kh old (events.Save party) o new h q = saves kh old (role party) o new h q
stays_sure lh kh old (events.Tick party) o new h q = ticks lh old (role party) o new h q
stays_sure lh kh old (events.Restart party) o new h q = restarts kh old (role party) party o new h q

-- nor do they in a whole run
pub all_sure : (link_honest keepers_honest : Type 0) (old : WorldView) (events : List Event)
    (outcomes : List Outcome) (new : WorldView) → CallsAll link_honest keepers_honest old events outcomes new
    → IsSure old → IsSure new
all_sure lh kh old [] [] new h q = same old new h q
all_sure lh kh old [] (o ∷ os) new h q = absurd h
all_sure lh kh old (e ∷ es) [] new h q = absurd h
all_sure lh kh old (e ∷ es) (o ∷ os) new h q =
    all_sure lh kh h.0 es os new h.2 (stays_sure lh kh old e o h.0 h.1 q)
