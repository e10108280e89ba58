-- Each call of any node keeps what holds of nodes, and so what is promised holds of each state that
-- they lead to.
use Rattle.std.specs.Prelude.{◌≡◌, ◌⊎◌, ℕ, zero, suc, ◌+◌, ◌-◌, ◌<◌, ⊤, Option, Some, None, List, [], ◌∷◌, ◌++◌, map, replicate, Contains}
use Rattle.std.proofs.Common.{refl, sym, ◌∙◌, ap, subst, inl, inr, arith}
use Rattle.std.proofs.lemmas.List.{append-nil, map-append}
use Rattle.bg_board.specs.declared.players.Player.{Player}
use Rattle.bg_board.specs.declared.players.Player.TheVariants.{X, O}
use Rattle.bg_match.specs.Terms.{Terms}
use Rattle.bg_match.specs.declared.entries.Entry.{Entry}
use Rattle.bg_party.specs.Claims.{WatcherTicks}
use Rattle.bg_party.specs.Views.{SeatView, WatcherView, fresh_watcher}
use Rattle.bg_wire.specs.Entries.Codes.{first_watcher}
use Rattle.bg_wire.specs.Saved.Restoring.{SlotsRestore}
use Rattle.bg_wire.specs.Saved.SlotLaws.{Slots}
use Rattle.bg_wire.specs.declared.packets.Datagram.{Datagram}
use Rattle.bg_protocol.specs.Devices.LinkCalls.{FollowerTakeCalls, FollowerTickCalls}
use Rattle.bg_protocol.specs.Protocol.FollowerTakeStep.{FollowerTakeStep}
use Rattle.bg_protocol.specs.Protocol.Roles.{role}
use Rattle.bg_protocol.specs.Protocol.State.{IsSetup, ProtocolState}
use Rattle.bg_protocol.specs.Worlds.Calls.{WatcherTakes}
use Rattle.bg_protocol.specs.Worlds.Views.{LinkView}
use Rattle.bg_protocol.specs.Worlds.WorldState.{Restorable, KeepsWhatWasShown}
use Rattle.bg_protocol.specs.declared.events.Event.{Event}
use Rattle.bg_protocol.specs.declared.events.Event.TheVariants as events
use Rattle.bg_protocol.specs.declared.events.Outcome.{Outcome}
use Rattle.bg_protocol.specs.declared.roles.Role.{Role}
use Rattle.bg_protocol.specs.declared.roles.Role.TheVariants as roles
use Rattle.bg_protocol.proofs.Protocol.EarlyEntries.{none_kept}
use Rattle.bg_protocol.proofs.Protocol.Rows.{take_at_follower}
use Rattle.bg_protocol.proofs.Steps.LearnRows.{watcher_takes}
use Rattle.bg_fences.specs.SharedMatches.{RefereeProcess, SeatProcess, Becomes, at_rest}
use Rattle.bg_fences.specs.FencedPromises.{FencedHeadline, HoldsOfNewest}
use Rattle.bg_fences.specs.ProcessRuns.{no_process}
use Rattle.bg_fences.specs.SharedNodes.{SharedNodes, cores_of, slots_of, with_seat_nodes, all_parties, held_by, process_of_referee, process_of_seat, process_of_watcher, processes_of}
use Rattle.bg_fences.specs.NodeActs.{NodeActs, NodesRun, IsReachedByNodes, NodeTakes, NodeSaves, NodeTicks, NodeRestarts, no_node_begun}
use Rattle.bg_fences.proofs.Invariant.{Earlier, FencedInv}
use Rattle.bg_fences.proofs.AllCalls.{begins_watcher, earlier_in, headline, starts, ticks_watcher, watched}
use Rattle.bg_fences.proofs.Lists.{was_in, each_becomes, of_one, none_in, cases_in, head_in}
use Rattle.bg_fences.proofs.Newest.{holds_of_newest}
use Rattle.bg_fences.proofs.NodeMoments.{MomentsOk, earlier_nodes, first_moment, one_moment, remembers_moment, remembers_slots, slots_keep}
use Rattle.bg_fences.proofs.NodeCalls.{NodesInv, law_of, seat_knows, watcher_knows}
use Rattle.bg_fences.proofs.NodeCalls as of_referee
use Rattle.bg_fences.proofs.SeatNodeCalls as of_seat
use Rattle.bg_fences.proofs.SeatNodes.{IsSeatCoreOf, IsWatcherCoreOf, watcher_ticks}
use Rattle.bg_fences.proofs.SlotReads.{read_was_restored}

-- ---- a watcher's node

map_becomes : {C P : Type 0} (f : C → P) (olds : List C) (c d : C) (news : List C) → Becomes olds c (d ∷ []) news → Becomes (map f olds) (f c) (f d ∷ []) (map f news)
map_becomes {C} {P} f olds c d news h = (
  map f h.0,
  map f h.1,
  ap (map f) h.2 ∙ map-append f h.0 (c ∷ h.1),
  ap (map f) h.3 ∙ map-append f (h.0 ++ d ∷ []) h.1 ∙ ap (λ (l : List P). l ++ map f h.1) (map-append f h.0 (d ∷ [])),
)

abbrev Knows : SharedNodes → List Datagram → WatcherView → Type 0
Knows m sent f = (index : ℕ) × IsWatcherCoreOf m.id m.terms sent index f

finish : {earlier : Earlier} (m : SharedNodes) (inv : NodesInv earlier m) (c d : WatcherView) (cores : List WatcherView) (sent out : List Datagram) → Becomes m.watching c (d ∷ []) cores → Knows m m.sent d → sent ≡ m.sent ++ out
    → FencedInv earlier (record (law_of m inv) { watching = map process_of_watcher cores; sent = sent }) → NodesInv earlier (record m { watching = cores; sent = sent })
finish {earlier} m inv c d cores sent out b new e after = record {
  restorable = inv.restorable;
  inv = after;
  referees = inv.referees;
  seats = seats;
  watching = λ f k. let w = each_becomes (Knows m m.sent) m.watching c (d ∷ []) cores b inv.watching (of_one (Knows m m.sent) d new) f k in (w.0, watcher_knows m.id m.terms m.sent sent out w.0 f e w.1);
}
  where
    seats : (q : Player) (s : SeatView) → Contains (cores_of (record m { watching = cores; sent = sent }) q) (Some s) → IsSeatCoreOf m.id m.terms sent q s
    seats X s k = seat_knows m.id m.terms m.sent sent out X s e (inv.seats X s k)
    seats O s k = seat_knows m.id m.terms m.sent sent out O s e (inv.seats O s k)

the_watcher : {earlier : Earlier} (m : SharedNodes) (inv : NodesInv earlier m) (index : ℕ) (c d : WatcherView) (cores : List WatcherView) → Becomes m.watching c (d ∷ []) cores → c.party ≡ first_watcher + index → IsWatcherCoreOf m.id m.terms m.sent index c
the_watcher {earlier} m inv index c d cores b is =
    let w = inv.watching c (was_in m.watching c (d ∷ []) cores b) in
    let same : w.0 ≡ index = omega (w.1.party, is, arith) in
    subst (λ (i : ℕ). IsWatcherCoreOf m.id m.terms m.sent i c) same w.1

take_acts : {earlier : Earlier} (m : SharedNodes) (inv : NodesInv earlier m) (index pick : ℕ) (o : Outcome) (c d : WatcherView) (old new : LinkView) (cores : List WatcherView) → c.party ≡ first_watcher + index → old.sent ≡ m.sent
    → FollowerTakeCalls WatcherTakes ⊤ (first_watcher + index) old c pick o new d → Becomes m.watching c (d ∷ []) cores → NodesInv earlier (record m { watching = cores; sent = new.sent })
take_acts {earlier} m inv index pick o c d old new cores is e h b =
    let S = law_of m inv in
    let p = process_of_watcher c in
    let fits = the_watcher m inv index c d cores b is in
    let t = watcher_takes m.id m.terms ⊤ tt (first_watcher + index) pick old new c o d fits.log
    (subst (λ (l : List Datagram). KeepsWhatWasShown m.id m.terms l (first_watcher + index) c.follower) (sym e) fits.early) h in
    let row = subst (λ (l : List Datagram). FollowerTakeStep m.id m.terms l (first_watcher + index) o c.follower.log.entries d.follower.log.entries) e t.0.0 in
    let early = subst (λ (l : List Datagram). KeepsWhatWasShown m.id m.terms l (first_watcher + index) d.follower) e t.0.2 in
    let party : d.party ≡ c.party = ap (λ (x : WatcherView). x.party) t.1 in
    let mine : IsWatcherCoreOf m.id m.terms m.sent index d = record { party = party ∙ is; log = t.0.1; early = early } in
    let goes : Becomes S.watching p (record p { log = d.follower.log.entries } ∷ []) (map process_of_watcher cores) =
    subst (λ (i : ℕ). Becomes S.watching p (record { index = i - first_watcher; log = d.follower.log.entries } ∷ []) (map process_of_watcher cores)) party (map_becomes process_of_watcher m.watching c d cores b) in
    let was = (inv.inv).watching p (was_in S.watching p (record p { log = d.follower.log.entries } ∷ []) (map process_of_watcher cores) goes) in
    let sent : new.sent ≡ m.sent = t.2 ∙ e in
    finish m inv c d cores new.sent [] b (index, mine) (sent ∙ sym (append-nil m.sent))
    (subst (λ (l : List Datagram). FencedInv earlier (record S { watching = map process_of_watcher cores; sent = l })) (sym sent)
    (watched S p d.follower.log.entries (record S { watching = map process_of_watcher cores }) inv.inv (map process_of_watcher cores, goes, refl)
    (take_at_follower (at_rest S) (first_watcher + index) o p.log d.follower.log.entries (inv.inv).base was.1 row)))

tick_acts : {earlier : Earlier} (m : SharedNodes) (inv : NodesInv earlier m) (index : ℕ) (o : Outcome) (c d : WatcherView) (old new : LinkView) (cores : List WatcherView) → c.party ≡ first_watcher + index → old.sent ≡ m.sent
    → FollowerTickCalls WatcherTicks ⊤ (all_parties m) old c o new d → Becomes m.watching c (d ∷ []) cores → NodesInv earlier (record m { watching = cores; sent = new.sent })
tick_acts {earlier} m inv index o c d old new cores is e h b =
    let S = law_of m inv in
    let p = process_of_watcher c in
    let v : ProtocolState = record (at_rest S) { sent = new.sent } in
    let t = watcher_ticks m.id m.terms m.sent index (all_parties m) (at_rest S) v old new o c d (the_watcher m inv index c d cores b is) e refl h in
    let grown = of_seat.tick_grows _ (at_rest S) v o t.0 in
    let number : p.index ≡ index = omega (is, arith) in
    let party : d.party ≡ c.party = t.1.party ∙ sym is in
    let goes : Becomes S.watching p (p ∷ []) (map process_of_watcher cores) =
    subst (λ (l : List Entry). Becomes S.watching p (record p { log = l } ∷ []) (map process_of_watcher cores)) t.2
    (subst (λ (i : ℕ). Becomes S.watching p (record { index = i - first_watcher; log = d.follower.log.entries } ∷ []) (map process_of_watcher cores)) party (map_becomes process_of_watcher m.watching c d cores b)) in
    finish m inv c d cores new.sent grown.0 b (index, t.1) grown.1
    (ticks_watcher S p index o v (record S { watching = map process_of_watcher cores; sent = new.sent }) inv.inv number t.0 (map process_of_watcher cores, goes, refl))

begin_acts : {earlier : Earlier} (m : SharedNodes) (inv : NodesInv earlier m) (index : ℕ) → index < m.watchers → NodesInv earlier (record m { watching = fresh_watcher (first_watcher + index) m.id m.terms ∷ m.watching })
begin_acts {earlier} m inv index l = record {
  restorable = inv.restorable;
  inv = subst (λ (i : ℕ). FencedInv earlier (record (law_of m inv) { watching = record { index = i; log = [] } ∷ map process_of_watcher m.watching })) (number index) (begins_watcher (law_of m inv) index inv.inv l);
  referees = inv.referees;
  seats = seats;
  watching = λ f k. at_place f (cases_in fresh f m.watching k);
}
  where
    number : (i : ℕ) → i ≡ first_watcher + i - first_watcher
    number i = omega arith

    fresh : WatcherView
    fresh = fresh_watcher (first_watcher + index) m.id m.terms

    at_place : (f : WatcherView) → (fresh_watcher (first_watcher + index) m.id m.terms ≡ f) ⊎ Contains m.watching f → Knows m m.sent f
    at_place f (inl e) = subst (Knows m m.sent) e (
      index,
      record {
        party = refl;
        log = (refl, refl);
        early = none_kept m.id m.terms m.sent (first_watcher + index) (fresh_watcher (first_watcher + index) m.id m.terms).follower refl;
      },
    )
    at_place f (inr k) = inv.watching f k

    seats : (q : Player) (s : SeatView) → Contains (cores_of (record m { watching = fresh_watcher (first_watcher + index) m.id m.terms ∷ m.watching }) q) (Some s) → IsSeatCoreOf m.id m.terms m.sent q s
    seats X s k = inv.seats X s k
    seats O s k = inv.seats O s k

-- ---- any call

-- of a seat: what was not sent stays
same_after : (m : SharedNodes) (q : Player) (cores : List (Option SeatView)) (slots : Slots) → record (with_seat_nodes m q cores slots) { sent = m.sent } ≡ with_seat_nodes m q cores slots
same_after m X cores slots = refl
same_after m O cores slots = refl

takes : {earlier : Earlier} (m : SharedNodes) (r : Role) (pick word : ℕ) (o : Outcome) (n : SharedNodes) → NodesInv earlier m → NodeTakes m r pick word o n → NodesInv earlier n
takes {earlier} m roles.Referee pick word o n inv h = subst (NodesInv earlier) (sym h.8) (of_referee.take_acts m inv pick word o h.0 h.1 h.2 h.3 h.4 h.5 h.6 h.7)
takes {earlier} m (roles.Seat q) pick word o n inv h = subst (NodesInv earlier) (sym h.8) (of_seat.take_acts m inv q pick o h.0 h.1 h.2 h.3 h.4 h.5 h.6 h.7)
takes {earlier} m (roles.Watcher index) pick word o n inv h = subst (NodesInv earlier) (sym h.9) (take_acts m inv index pick o h.0 h.3 h.1 h.2 h.4 h.5 h.6 h.7 h.8)

saves : {earlier : Earlier} (m : SharedNodes) (r : Role) (o : Outcome) (n : SharedNodes) → NodesInv earlier m → NodeSaves m r o n → NodesInv earlier n
saves {earlier} m roles.Referee o n inv h = subst (NodesInv earlier) (sym h.8) (of_referee.save_acts m inv o h.0 h.1 h.2 h.3 h.4 h.5 (h.6).0 (h.6).1 h.7)
saves {earlier} m (roles.Seat q) o n inv h = subst (NodesInv earlier) (same_after m q h.4 (h.2).slots ∙ sym h.8) (of_seat.save_acts m inv q o h.0 h.1 h.2 h.3 h.4 h.5 (h.6).0 (h.6).1 h.7)
saves {earlier} m (roles.Watcher index) o n inv h = subst (NodesInv earlier) (sym h) inv

ticks : {earlier : Earlier} (m : SharedNodes) (r : Role) (o : Outcome) (n : SharedNodes) → NodesInv earlier m → NodeTicks m r o n → NodesInv earlier n
ticks {earlier} m roles.Referee o n inv h = subst (NodesInv earlier) (sym h.8) (of_referee.tick_acts m inv o h.0 h.1 h.2 h.3 h.4 h.5 h.6 h.7)
ticks {earlier} m (roles.Seat q) o n inv h = subst (NodesInv earlier) (sym h.8) (of_seat.tick_acts m inv q o h.0 h.1 h.2 h.3 h.4 h.5 h.6 h.7)
ticks {earlier} m (roles.Watcher index) o n inv h = subst (NodesInv earlier) (sym h.9) (tick_acts m inv index o h.0 h.3 h.1 h.2 h.4 h.5 h.6 h.7 h.8)

restarts : (moments : List SharedNodes) (m : SharedNodes) (r : Role) (o : Outcome) (n : SharedNodes) → MomentsOk moments → NodesInv (earlier_nodes moments) m → NodeRestarts moments m r o n
    → NodesInv (earlier_nodes moments) n
restarts moments m roles.Referee o n were inv h =
    subst (NodesInv (earlier_nodes moments)) (sym h.8)
    (of_referee.restart_acts m inv o h.0 h.1 h.2 h.3 h.4 (λ found k. read_was_restored (λ past. past.referee_slots) moments (h.1).slots found were.referee h.5 k) h.6 h.7)
restarts moments m (roles.Seat q) o n were inv h =
    subst (NodesInv (earlier_nodes moments)) (same_after m q h.4 (slots_of m q) ∙ sym h.8)
    (of_seat.restart_acts m inv q o h.0 h.1 h.2 h.3 h.4 (λ found k. read_was_restored (λ past. slots_of past q) moments (h.1).slots found (were.seats q) h.5 k) h.6 h.7)
restarts moments m (roles.Watcher index) o n were inv h = subst (NodesInv (earlier_nodes moments)) (sym h.2) (begin_acts m inv index h.1)

pub acts_keep : (moments : List SharedNodes) (m : SharedNodes) (e : Event) (o : Outcome) (n : SharedNodes) → MomentsOk moments → NodesInv (earlier_nodes moments) m → NodeActs moments m e o n
    → NodesInv (earlier_nodes moments) n
acts_keep moments m (events.Due word) o n were inv h = subst (NodesInv (earlier_nodes moments)) (sym h.5) (of_referee.due_acts m inv word o h.0 h.1 h.2 h.3 h.4)
acts_keep moments m (events.Take party pick word) o n were inv h = takes m (role party) pick word o n inv h
acts_keep moments m (events.Choose q a) o n were inv h =
    subst (NodesInv (earlier_nodes moments)) (same_after m q h.2 (slots_of m q) ∙ sym h.5) (of_seat.choose_acts m inv q a o h.0 h.1 h.2 h.3 h.4)
acts_keep moments m (events.Save party) o n were inv h = saves m (role party) o n inv h
acts_keep moments m (events.Tick party) o n were inv h = ticks m (role party) o n inv h
acts_keep moments m (events.Restart party) o n were inv h = restarts moments m (role party) o n were inv h

-- ---- runs

held_none : {C P : Type 0} (f : C → P) (n : ℕ) → held_by f (replicate n None) ≡ []
held_none f zero = refl
held_none f (suc n) = held_none f n

none_some : {C : Type 0} (c : C) → ◌≡◌ {A = Option C} None (Some c) → ⊥
none_some c e = cc

nobody : {C : Type 0} (n : ℕ) (c : C) → Contains (replicate n None) (Some c) → ⊥
nobody zero c k = none_in (Some c) k
nobody {C} (suc n) c k = at_place (λ g. nobody n c g) (cases_in None (Some c) (replicate n None) k)
  where
    at_place : (Contains (replicate n None) (Some c) → ⊥) → ◌≡◌ {A = Option C} None (Some c) ⊎ Contains (replicate n None) (Some c) → ⊥
    at_place again (inl e) = none_some c e
    at_place again (inr g) = again g

begun : (id : ℕ) (terms : Terms) (watchers a b c : ℕ) → IsSetup id terms watchers → NodesInv (earlier_in []) (no_node_begun id terms watchers a b c)
begun id terms watchers a b c setup = record {
  restorable = record { referee = None; x = None; o = None };
  inv = with_os;
  referees = λ r k. absurd (nobody a r k);
  seats = seats;
  watching = λ f k. absurd (none_in f k);
}
  where
    with_referees : FencedInv (earlier_in []) (record (no_process id terms watchers) { referees = held_by process_of_referee (replicate a None) })
    with_referees = subst (λ (l : List RefereeProcess). FencedInv (earlier_in []) (record (no_process id terms watchers) { referees = l })) (sym (held_none process_of_referee a)) (starts id terms watchers setup)

    with_xs : FencedInv (earlier_in []) (record (no_process id terms watchers) { referees = held_by process_of_referee (replicate a None); xs = held_by process_of_seat (replicate b None) })
    with_xs = subst (λ (l : List SeatProcess). FencedInv (earlier_in []) (record (no_process id terms watchers) { referees = held_by process_of_referee (replicate a None); xs = l })) (sym (held_none process_of_seat b)) with_referees

    with_os : FencedInv (earlier_in []) (record (no_process id terms watchers) {
      referees = held_by process_of_referee (replicate a None);
      xs = held_by process_of_seat (replicate b None);
      os = held_by process_of_seat (replicate c None);
    })
    with_os = subst (λ (l : List SeatProcess). FencedInv (earlier_in []) (record (no_process id terms watchers) { referees = held_by process_of_referee (replicate a None); xs = held_by process_of_seat (replicate b None); os = l })) (sym (held_none process_of_seat c)) with_xs

    seats : (q : Player) (s : SeatView) → Contains (cores_of (no_node_begun id terms watchers a b c) q) (Some s) → IsSeatCoreOf id terms [] q s
    seats X s k = absurd (nobody b s k)
    seats O s k = absurd (nobody c s k)

-- the start is the first moment
first : (id : ℕ) (terms : Terms) (watchers a b c : ℕ) → IsSetup id terms watchers
    → NodesInv (earlier_nodes (no_node_begun id terms watchers a b c ∷ [])) (no_node_begun id terms watchers a b c)
first id terms watchers a b c setup =
    let start = no_node_begun id terms watchers a b c in
    remembers_slots {later = earlier_nodes (start ∷ [])} start (begun id terms watchers a b c setup)
    (λ found w. inr (subst (λ (x : SharedNodes). SlotsRestore x.referee_slots.zero x.referee_slots.one found) (sym (only start w.0 w.1)) w.2))
    (λ q found w. inr (subst (λ (x : SharedNodes). SlotsRestore (slots_of x q).zero (slots_of x q).one found) (sym (only start w.0 w.1)) w.2))
  where
    only : (start past : SharedNodes) → Contains (start ∷ []) past → start ≡ past
    only start past k = elim (cases_in start past [] k) [
      | inl e ↦ e
      | inr g ↦ absurd (none_in past g)
    ]

run_keeps : (before : List SharedNodes) (m : SharedNodes) (hs : List (Event × Outcome)) (n : SharedNodes) → MomentsOk (m ∷ before) → NodesInv (earlier_nodes (m ∷ before)) m → NodesRun before m hs n
    → (moments : List SharedNodes) × NodesInv (earlier_nodes moments) n
run_keeps before m [] n were inv r = (m ∷ before, subst (NodesInv (earlier_nodes (m ∷ before))) (sym r) inv)
run_keeps before m (h ∷ hs) n were inv r =
    run_keeps (m ∷ before) r.0 hs n
    (one_moment (m ∷ before) m r.0 (head_in m before) were (slots_keep (m ∷ before) m h.0 h.1 r.0 inv r.1))
    (remembers_moment (m ∷ before) r.0 (acts_keep (m ∷ before) m h.0 h.1 r.0 were inv r.1)) r.2

pub nodes_agree : (m : SharedNodes) → IsReachedByNodes m → (r : Restorable) × FencedHeadline (processes_of m r) × HoldsOfNewest (processes_of m r)
nodes_agree m h =
    let start = no_node_begun h.id h.terms h.watchers h.referees h.xs h.os in
    let end = run_keeps [] start h.history m (first_moment h.id h.terms h.watchers h.referees h.xs h.os) (first h.id h.terms h.watchers h.referees h.xs h.os h.setup) h.run in
    let inv = end.1 in
    (inv.restorable, headline (processes_of m inv.restorable) inv.inv, holds_of_newest (processes_of m inv.restorable) inv.inv)
