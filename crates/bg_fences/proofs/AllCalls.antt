-- Each call keeps the invariant, and so what is promised holds of each state that calls lead to.
use Rattle.std.specs.Prelude.{◌≡◌, ◌⊎◌, ℕ, ◌+◌, ◌<◌, Option, Some, List, [], ◌∷◌, ◌++◌, length, take, Contains}
use Rattle.std.proofs.Common.{refl, sym, ◌∙◌, ap, subst, inl, inr, arith}
use Rattle.std.proofs.lemmas.List.{length-replicate}
use Rattle.std.proofs.lemmas.List.Elements.{All-weaker}
use Rattle.bg_board.specs.declared.players.Player.{Player}
use Rattle.bg_board.specs.declared.players.Player.TheVariants.{X, O}
use Rattle.bg_match.specs.Terms.{Terms}
use Rattle.bg_match.specs.declared.entries.Entry.{Entry}
use Rattle.bg_match.specs.declared.actions.Action.{Action}
use Rattle.bg_wire.specs.Entries.Codes.{first_watcher}
use Rattle.bg_wire.specs.Runs.{IsRun}
use Rattle.bg_wire.specs.Saved.SavedText.{SavedParts}
use Rattle.bg_wire.specs.declared.packets.Datagram.{Datagram}
use Rattle.bg_wire.specs.declared.packets.Packet.TheVariants as packet
use Rattle.bg_protocol.specs.Promises.Agreement.{IsPrefix}
use Rattle.bg_protocol.specs.Promises.Claims.{AreClaimsKept}
use Rattle.bg_protocol.specs.Protocol.Datagrams.{Carries}
use Rattle.bg_protocol.specs.Protocol.Frames.{SendsAtMost}
use Rattle.bg_protocol.specs.Protocol.Roles.{role}
use Rattle.bg_protocol.specs.Protocol.Slots.{claim_in}
use Rattle.bg_protocol.specs.Protocol.State.{ProtocolState, IsSetup, protocol_start}
use Rattle.bg_protocol.specs.Protocol.TickStep.{SendsOnTick, want_packet}
use Rattle.bg_protocol.specs.declared.events.Event.{Event}
use Rattle.bg_protocol.specs.declared.events.Event.TheVariants as events
use Rattle.bg_protocol.specs.declared.events.Outcome.{Outcome}
use Rattle.bg_protocol.specs.declared.events.Outcome.TheVariants as outcomes
use Rattle.bg_protocol.specs.declared.roles.Role.{Role}
use Rattle.bg_protocol.specs.declared.roles.Role.TheVariants.{Referee as AsReferee, Seat as AsSeat, Watcher as AsWatcher}
use Rattle.bg_protocol.proofs.Protocol.Lists.{prefix_same, prefix_none}
use Rattle.bg_protocol.proofs.Protocol.Rows.{take_at_follower}
use Rattle.bg_protocol.proofs.Protocol.Reached.{reached, answered, no_slot_refused}
use Rattle.bg_fences.specs.SharedMatches.{WatcherProcess, SharedMatch, stored_of, seats_of, with_seats, settled, at_rest}
use Rattle.bg_fences.specs.ProcessCalls.{ProcessBegins, ProcessTakes, ProcessSaves, ProcessTicks, ProcessCalls, WatcherBecomes}
use Rattle.bg_fences.specs.ProcessRuns.{ProcessesRun, IsReachedByProcesses, no_process}
use Rattle.bg_fences.specs.FencedPromises.{FencedHeadline}
use Rattle.bg_fences.proofs.Lists.{was_in, each_becomes, of_one, none_in, cases_in}
use Rattle.bg_fences.proofs.Invariant.{Earlier, FencedInv, RefereeProcessOk, SeatProcessOk, SeatsOk, ready, ready_all, referee_from, seat_from}
use Rattle.bg_fences.proofs.Sending.{MayGo, ever_of, sends_all}
use Rattle.bg_fences.proofs.RefereeCalls as at_referee
use Rattle.bg_fences.proofs.SeatCalls as at_seat

-- ---- a watcher

abbrev Watches : SharedMatch → WatcherProcess → Type 0
Watches m p = (p.index < m.watchers) × IsPrefix p.log (ready m)

pub watched : {earlier : Earlier} (m : SharedMatch) (p : WatcherProcess) (log : List Entry) (n : SharedMatch) → FencedInv earlier m → WatcherBecomes m p log n → IsPrefix log (ready m) → FencedInv earlier n
watched {earlier} m p log n inv h q =
    let was = inv.watching p (was_in m.watching p (record p { log = log } ∷ []) h.0 h.1) in
    subst (FencedInv earlier) (sym h.2)
    (record {
      base = inv.base;
      referees = inv.referees;
      begun = inv.begun;
      seats = seats;
      watching = each_becomes (Watches m) m.watching p (record p { log = log } ∷ []) h.0 h.1 inv.watching (of_one (Watches m) (record p { log = log }) (was.0, q));
    })
  where
    seats : (s : Player) → SeatsOk earlier m.id m.terms m.sent (ready m) s (stored_of (record m { watching = h.0 }) s) (seats_of (record m { watching = h.0 }) s)
    seats X = inv.seats X
    seats O = inv.seats O

abbrev MayAsk : SharedMatch → ℕ → WatcherProcess → Datagram → Type 0
MayAsk m index p d = Carries d 0 (want_packet m.id m.terms (first_watcher + index) p.log)

asks : {earlier : Earlier} (m : SharedMatch) (p : WatcherProcess) (index : ℕ) (v : ProtocolState) (n : SharedMatch) → FencedInv earlier m → p.index ≡ index
    → SendsAtMost (MayAsk m index p) 1 (at_rest m) v → WatcherBecomes (record m { sent = v.sent }) p p.log n → FencedInv earlier n
asks {earlier} m p index v n inv is h b =
    let was = inv.watching p (was_in m.watching p (p ∷ []) b.0 b.1) in
    let there : first_watcher + index < first_watcher + length (at_rest m).watchers = let l = was.0 in let none : List Entry = [] in let k = length-replicate m.watchers none in omega (l, k, is, arith) in
    let sent = sends_all m h.out inv (All-weaker (MayAsk m index p) (MayGo m inv) (λ d c. at_seat.want_goes m inv d (first_watcher + index) p.log there was.1 c) h.out h.each) in
    let e : v.sent ≡ m.sent ++ h.out = ap (λ (x : ProtocolState). x.sent) h.after in
    watched (record m { sent = v.sent }) p p.log n (subst (λ (s : List Datagram). FencedInv earlier (record m { sent = s })) (sym e) sent) b was.1

pub ticks_watcher : {earlier : Earlier} (m : SharedMatch) (p : WatcherProcess) (index : ℕ) (o : Outcome) (v : ProtocolState) (n : SharedMatch) → FencedInv earlier m → p.index ≡ index
    → SendsOnTick (MayAsk m index p) 1 (at_rest m) o v → WatcherBecomes (record m { sent = v.sent }) p p.log n → FencedInv earlier n
ticks_watcher {earlier} m p index (outcomes.Sent k) v n inv is h b = asks m p index v n inv is h.0 b
ticks_watcher {earlier} m p index outcomes.LinkFault v n inv is h b = asks m p index v n inv is h b
ticks_watcher {earlier} m p index outcomes.Memory v n inv is h b = asks m p index v n inv is h b
ticks_watcher {earlier} m p index _ v n inv is h b = absurd h

-- ---- a process begins

-- what the slots restore now
pub begun : {earlier : Earlier} (m : SharedMatch) → FencedInv earlier m → RefereeProcessOk m.id m.terms m.sent (ready m) m.referee (referee_from m.referee.restorable)
begun m inv = record {
  legal = inv.base.referee.legal;
  within = omega arith;
  told = prefix_same (ready m);
  old = omega arith;
  newest = λ is. inv.base.referee;
}

pub seated : {earlier : Earlier} (m : SharedMatch) (q : Player) (inv : FencedInv earlier m)
    → SeatProcessOk m.id m.terms m.sent (ready m) q (stored_of m q) (ever_of m inv q) (seat_from (stored_of m q).restorable)
seated m q inv =
    let s = at_seat.rest_of m q inv in
    record {
      log = s.log;
      old = omega arith;
      legal = s.claim_legal;
      was_saved = λ e n a g. (inv.seats q).in_slots n a g;
      newest = λ is. s;
    }

-- what they restore now counts as earlier, too
pub remembers : {earlier later : Earlier} (m : SharedMatch) → FencedInv earlier m
    → ((found : Option SavedParts) → later.referee found → earlier.referee found ⊎ (found ≡ m.referee.restorable))
    → ((q : Player) (found : Option SavedParts) → later.seat q found → earlier.seat q found ⊎ (found ≡ (stored_of m q).restorable)) → FencedInv later m
remembers {earlier} {later} m inv of_referee of_seat = record {
  base = inv.base;
  referees = inv.referees;
  begun = λ found w. at_referee found (of_referee found w);
  seats = seats;
  watching = inv.watching;
}
  where
    at_referee : (found : Option SavedParts) → earlier.referee found ⊎ (found ≡ m.referee.restorable) → RefereeProcessOk m.id m.terms m.sent (ready m) m.referee (referee_from found)
    at_referee found (inl w) = inv.begun found w
    at_referee found (inr e) = subst (λ (x : Option SavedParts). RefereeProcessOk m.id m.terms m.sent (ready m) m.referee (referee_from x)) (sym e) (begun m inv)

    at_seats : (q : Player) (found : Option SavedParts) → earlier.seat q found ⊎ (found ≡ (stored_of m q).restorable)
        → SeatProcessOk m.id m.terms m.sent (ready m) q (stored_of m q) (ever_of m inv q) (seat_from found)
    at_seats q found (inl w) = (inv.seats q).begun found w
    at_seats q found (inr e) =
        subst (λ (x : Option SavedParts). SeatProcessOk m.id m.terms m.sent (ready m) q (stored_of m q) (ever_of m inv q) (seat_from x)) (sym e) (seated m q inv)

    seats : (q : Player) → SeatsOk later m.id m.terms m.sent (ready m) q (stored_of m q) (seats_of m q)
    seats q =
        let s = inv.seats q in
        record {
          ever = s.ever;
          kept = s.kept;
          in_slots = s.in_slots;
          was_sent = s.was_sent;
          each = s.each;
          begun = λ found w. at_seats q found (of_seat q found w);
        }

one_more : {P : Type 0} (Q : P → Type 0) (p : P) (ps : List P) → Q p → ((x : P) → Contains ps x → Q x) → (x : P) → Contains (p ∷ ps) x → Q x
one_more {P} Q p ps q all x c = at_place (cases_in p x ps c)
  where
    at_place : (p ≡ x) ⊎ Contains ps x → Q x
    at_place (inl e) = subst Q e q
    at_place (inr k) = all x k

begins_referee : {earlier : Earlier} (m : SharedMatch) (found : Option SavedParts) → FencedInv earlier m → earlier.referee found
    → FencedInv earlier (record m { referees = referee_from found ∷ m.referees })
begins_referee m found inv w =
    at_referee.with_referees m (referee_from found ∷ m.referees) inv
    (one_more (RefereeProcessOk m.id m.terms m.sent (ready m) m.referee) (referee_from found) m.referees (inv.begun found w) inv.referees)

begins_seat : {earlier : Earlier} (m : SharedMatch) (q : Player) (found : Option SavedParts) → FencedInv earlier m → earlier.seat q found
    → FencedInv earlier (with_seats m q (seat_from found ∷ seats_of m q))
begins_seat m q found inv w =
    let s = inv.seats q in
    at_seat.change_seats m q (seat_from found ∷ seats_of m q) inv
    (record {
      ever = s.ever;
      kept = s.kept;
      in_slots = s.in_slots;
      was_sent = s.was_sent;
      each = one_more (SeatProcessOk m.id m.terms m.sent (ready m) q (stored_of m q) s.ever) (seat_from found) (seats_of m q) (s.begun found w) s.each;
      begun = s.begun;
    })

pub begins_watcher : {earlier : Earlier} (m : SharedMatch) (index : ℕ) → FencedInv earlier m → index < m.watchers → FencedInv earlier (record m { watching = record { index = index; log = [] } ∷ m.watching })
begins_watcher {earlier} m index inv l = record {
  base = inv.base;
  referees = inv.referees;
  begun = inv.begun;
  seats = seats;
  watching = one_more (Watches m) (record { index = index; log = [] }) m.watching (l, prefix_none (ready m)) inv.watching;
}
  where
    seats : (s : Player) → SeatsOk earlier m.id m.terms m.sent (ready m) s (stored_of (record m { watching = record { index = index; log = [] } ∷ m.watching }) s) (seats_of (record m { watching = record { index = index; log = [] } ∷ m.watching }) s)
    seats X = inv.seats X
    seats O = inv.seats O

-- what the slots restored at one of these moments
abbrev pub earlier_in : List SharedMatch → Earlier
earlier_in moments = record {
  referee = λ found. (past : SharedMatch) × Contains moments past × (found ≡ past.referee.restorable);
  seat = λ q found. (past : SharedMatch) × Contains moments past × (found ≡ (stored_of past q).restorable);
}

begins : (moments : List SharedMatch) (m : SharedMatch) (r : Role) (o : Outcome) (n : SharedMatch) → FencedInv (earlier_in moments) m → ProcessBegins moments m r o n
    → FencedInv (earlier_in moments) n
begins moments m AsReferee outcomes.Restarted n inv h =
    subst (FencedInv (earlier_in moments)) (sym h.2) (begins_referee m (h.0).referee.restorable inv (h.0, h.1, refl))
begins moments m (AsSeat q) outcomes.Restarted n inv h =
    subst (FencedInv (earlier_in moments)) (sym h.2) (begins_seat m q (stored_of h.0 q).restorable inv (h.0, h.1, refl))
begins moments m (AsWatcher index) outcomes.Restarted n inv h = subst (FencedInv (earlier_in moments)) (sym h.1) (begins_watcher m index inv h.0)
begins moments m AsReferee _ n inv h = subst (FencedInv (earlier_in moments)) (sym h) inv
begins moments m (AsSeat q) _ n inv h = subst (FencedInv (earlier_in moments)) (sym h) inv
begins moments m (AsWatcher index) _ n inv h = subst (FencedInv (earlier_in moments)) (sym h) inv

-- ---- any call

takes : {earlier : Earlier} (m : SharedMatch) (r : Role) (word : ℕ) (o : Outcome) (n : SharedMatch) → FencedInv earlier m → ProcessTakes m r word o n → FencedInv earlier n
takes {earlier} m AsReferee word o n inv h = at_referee.takes_packet m h.0 word o h.1 n inv h.2 h.3
takes {earlier} m (AsSeat q) word o n inv h = subst (FencedInv earlier) (sym h.5) (at_seat.takes_packet m q h.0 o h.1 h.2 inv h.3 h.4)
takes {earlier} m (AsWatcher index) word o n inv h =
    let was = inv.watching h.0 (was_in m.watching h.0 (record (h.0) { log = h.1 } ∷ []) (h.4).0 (h.4).1) in
    watched m h.0 h.1 n inv h.4 (take_at_follower (at_rest m) (first_watcher + index) o (h.0).log h.1 inv.base was.1 h.3)

saves : {earlier : Earlier} (m : SharedMatch) (r : Role) (o : Outcome) (n : SharedMatch) → FencedInv earlier m → ProcessSaves m r o n → FencedInv earlier n
saves {earlier} m AsReferee o n inv h = at_referee.saves m h.0 o n inv h.1
saves {earlier} m (AsSeat q) o n inv h = at_seat.saves m q h.0 o n inv h.1
saves {earlier} m (AsWatcher index) o n inv h = subst (FencedInv earlier) (sym h) inv

ticks : {earlier : Earlier} (m : SharedMatch) (r : Role) (o : Outcome) (n : SharedMatch) → FencedInv earlier m → ProcessTicks m r o n → FencedInv earlier n
ticks {earlier} m AsReferee o n inv h = at_referee.ticks m h.0 o h.1 n inv h.2 h.3
ticks {earlier} m (AsSeat X) o n inv h = at_seat.ticks m X h.0 o h.1 n inv h.2 h.3
ticks {earlier} m (AsSeat O) o n inv h = at_seat.ticks m O h.0 o h.1 n inv h.2 h.3
ticks {earlier} m (AsWatcher index) o n inv h = ticks_watcher m h.0 index o h.1 n inv h.2 h.3 h.4

pub call_keeps : (moments : List SharedMatch) (m : SharedMatch) (e : Event) (o : Outcome) (n : SharedMatch) → FencedInv (earlier_in moments) m → ProcessCalls moments m e o n
    → FencedInv (earlier_in moments) n
call_keeps moments m (events.Due word) o n inv h = at_referee.due m h.0 word o h.1 n inv h.2 h.3
call_keeps moments m (events.Take party pick word) o n inv h = takes m (role party) word o n inv h
call_keeps moments m (events.Choose q a) o n inv h = subst (FencedInv (earlier_in moments)) (sym h.5) (at_seat.chooses m q h.0 a o h.1 h.2 inv h.3 h.4)
call_keeps moments m (events.Save party) o n inv h = saves m (role party) o n inv h
call_keeps moments m (events.Tick party) o n inv h = ticks m (role party) o n inv h
call_keeps moments m (events.Restart party) o n inv h = begins moments m (role party) o n inv h

-- this moment is one of those so far
pub remembers_now : (before : List SharedMatch) (m : SharedMatch) → FencedInv (earlier_in before) m → FencedInv (earlier_in (m ∷ before)) m
remembers_now before m inv =
    remembers m inv
    (λ found w. elim (cases_in m w.0 before w.1) [
      | inl e ↦ inr (w.2 ∙ ap (λ (x : SharedMatch). x.referee.restorable) (sym e))
      | inr c ↦ inl (w.0, c, w.2)
    ])
    (λ q found w. elim (cases_in m w.0 before w.1) [
      | inl e ↦ inr (w.2 ∙ ap (λ (x : SharedMatch). (stored_of x q).restorable) (sym e))
      | inr c ↦ inl (w.0, c, w.2)
    ])

-- ---- runs

none_sent : (d : Datagram) → Contains [] d → ⊥
none_sent d h = omega (arith, h.1)

pub starts : (id : ℕ) (terms : Terms) (watchers : ℕ) → IsSetup id terms watchers → FencedInv (earlier_in []) (no_process id terms watchers)
starts id terms watchers setup = record {
  base = reached (protocol_start id terms watchers) (record { id = id; terms = terms; watchers = watchers; setup = setup; history = []; run = refl });
  referees = λ p c. absurd (none_in p c);
  begun = λ found w. absurd (none_in w.0 w.1);
  seats = seats;
  watching = λ p c. absurd (none_in p c);
}
  where
    none : (q : Player) → SeatsOk (earlier_in []) id terms [] (ready (no_process id terms watchers)) q (no_process id terms watchers).referee []
    none q = record {
      ever = [];
      kept = record {
        up_to = λ n a c. absurd (none_in (n, a) c);
        same = λ n a c e. absurd (none_in (n, a) c);
        one = λ n a b c d. absurd (none_in (n, a) c);
      };
      in_slots = λ n a e. absurd (nothing n a e);
      was_sent = λ n a c. absurd (none_sent c.3.0 c.3.1);
      each = λ f c. absurd (none_in f c);
      begun = λ found w. absurd (none_in w.0 w.1);
    }
      where
        nothing : (n : ℕ) (a : Action) → ◌≡◌ {A = Option (ℕ × Action)} (claim_in (no_process id terms watchers).referee.restorable) (Some (n, a)) → ⊥
        nothing n a e = cc

    seats : (q : Player) → SeatsOk (earlier_in []) id terms [] (ready (no_process id terms watchers)) q (stored_of (no_process id terms watchers) q) (seats_of (no_process id terms watchers) q)
    seats X = none X
    seats O = none O

run_keeps : (before : List SharedMatch) (m : SharedMatch) (hs : List (Event × Outcome)) (n : SharedMatch) → FencedInv (earlier_in before) m → ProcessesRun before m hs n
    → (moments : List SharedMatch) × FencedInv (earlier_in moments) n
run_keeps before m [] n inv r = (before, subst (FencedInv (earlier_in before)) (sym r) inv)
run_keeps before m (h ∷ hs) n inv r = run_keeps (m ∷ before) r.0 hs n (call_keeps (m ∷ before) m h.0 h.1 r.0 (remembers_now before m inv) r.1) r.2

pub reached_by_processes : (m : SharedMatch) → IsReachedByProcesses m → (moments : List SharedMatch) × FencedInv (earlier_in moments) m
reached_by_processes m h = run_keeps [] (no_process h.id h.terms h.watchers) h.history m (starts h.id h.terms h.watchers h.setup) h.run

-- ---- what is promised

pub headline : {earlier : Earlier} (m : SharedMatch) → FencedInv earlier m → FencedHeadline m
headline {earlier} m inv = record {
  legal = inv.base.referee.legal;
  answered = answered (at_rest m) inv.base;
  claims = claims;
  shown = λ to id rules first list h. subst (λ (l : List Entry). IsRun l first list) (ready_all m) (inv.base.datagrams to (packet.Entries id rules first list) h).1;
  told = λ p c. settles (take p.saved p.log) (inv.referees p c).told;
  held = λ p c. (inv.referees p c).legal;
  seats = λ q f c. settles f.log ((inv.seats q).each f c).log;
  watchers = λ p c. settles p.log (inv.watching p c).1;
  packets = inv.base.datagrams;
  slots = no_slot_refused (at_rest m) inv.base;
}
  where
    settles : (l : List Entry) → IsPrefix l (ready m) → IsPrefix l (settled m)
    settles l p = subst (λ (s : List Entry). IsPrefix l s) (ready_all m) p

    claims : (q : Player) → AreClaimsKept m.sent q (claim_in (stored_of m q).restorable)
    claims X = inv.base.x.claims
    claims O = inv.base.o.claims
