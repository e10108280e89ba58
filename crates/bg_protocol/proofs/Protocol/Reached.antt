-- What holds of each reached state.
use Rattle.std.specs.Prelude.{◌≡◌, ◌⊎◌, ℕ, zero, suc, ◌<◌, ◌≤◌, ◌+◌, ◌-◌, true, Option, Some, None, List, [], ◌∷◌, ◌++◌, length, take, replicate, slice_get, Contains}
use Rattle.std.proofs.Common.{refl, sym, ◌∙◌, ap, subst, arith}
use Rattle.std.proofs.lemmas.List.{length-replicate, length-take, take_all}
use Rattle.bg_match.specs.declared.limits.Rules.{Rules}
use Rattle.bg_board.specs.declared.players.Player.{Player}
use Rattle.bg_board.specs.declared.players.Player.TheVariants.{X, O}
use Rattle.bg_match.specs.declared.actions.Action.{Action}
use Rattle.bg_match.specs.declared.entries.Entry.{Entry}
use Rattle.bg_match.specs.declared.phases.Actor.{Actor}
use Rattle.bg_match.specs.declared.phases.Actor.TheVariants.{Referee, Seat, Nobody}
use Rattle.bg_match.specs.Actor.{actor_of, seat_of}
use Rattle.bg_match.specs.Match.{IsLegalRecord, ActsAfter, SeatAfter, at_number, IsNext}
use Rattle.bg_match.specs.State.{start_of}
use Rattle.bg_match.proofs.Legal.{legal_fronts, rolls_any_dice}
use Rattle.bg_wire.specs.Parties.{party_of}
use Rattle.bg_wire.specs.declared.packets.Datagram.{Datagram}
use Rattle.bg_wire.specs.declared.packets.Packet.TheVariants as packet
use Rattle.bg_party.specs.Claims.{trial_dice}
use Rattle.bg_party.specs.Learns.{new_entries}
use Rattle.bg_protocol.specs.declared.events.Event.{Event}
use Rattle.bg_protocol.specs.declared.events.Outcome.{Outcome}
use Rattle.bg_match.specs.Terms.{Terms}
use Rattle.bg_protocol.specs.Promises.Agreement.{IsPrefix, Agreement}
use Rattle.bg_protocol.specs.Promises.Claims.{AreClaimsKept}
use Rattle.bg_protocol.specs.Protocol.Datagrams.{WasSent}
use Rattle.bg_protocol.specs.Promises.Headline.{AreAnswered, Headline}
use Rattle.bg_protocol.specs.Promises.Refusals.{IsLegalClaim, IsNoClaimRefused, AreNoEntriesRefused, IsNoPacketRefused, IsNoSlotRefused}
use Rattle.bg_protocol.specs.Protocol.Runs.{Run, IsReached}
use Rattle.bg_protocol.specs.Protocol.SaveStep.{to_save_referee, to_save_seat}
use Rattle.bg_protocol.specs.Promises.Shown.{ShowsSavedAlone}
use Rattle.bg_protocol.specs.Protocol.Slots.{empty_slots}
use Rattle.bg_protocol.specs.Protocol.State.{ProtocolState, SeatState, IsSetup, protocol_start, seat_in, saved_log, log_of, restored_seat}
use Rattle.bg_protocol.specs.Protocol.Step.{Step}
use Rattle.bg_protocol.specs.Promises.Survival.{SavesSurvive}
use Rattle.bg_protocol.proofs.Protocol.Lists.{prefix_none, prefix_same, prefix_take, prefix_trans, prefix_back, prefix_more, get_within, get_drop}
use Rattle.bg_protocol.proofs.Protocol.Saving.{empty_ok, whole_slots, after_whole, after_torn}
use Rattle.bg_protocol.proofs.Protocol.Invariant.{Inv, SeatOk, of_seat}
use Rattle.bg_protocol.proofs.Protocol.Rows.{step_keeps, referee_of, seat_of as party_of_seat}

none_sent : (d : Datagram) → Contains [] d → ⊥
none_sent d h = omega (arith, h.1)

none_claimed : (q : Player) → AreClaimsKept [] q None
none_claimed q = record {
  up_to = λ n a c. absurd (none_sent c.3.0 c.3.1);
  same = λ n a c e. absurd (none_sent c.3.0 c.3.1);
  one = λ n a b c d. absurd (none_sent c.3.0 c.3.1);
}

fresh_seat : (id : ℕ) (terms : Terms) (q : Player) → SeatOk id terms [] [] q (restored_seat empty_slots None true)
fresh_seat id terms q = record {
  log = prefix_none [];
  kept_log = prefix_none [];
  slots = empty_ok id terms (party_of q);
  claim_old = λ e. refl;
  claim_new = λ e. cc;
  claim_legal = tt;
  kept_legal = tt;
  claims = none_claimed q;
}

empty_watcher : (n i : ℕ) (log : List Entry) → slice_get (replicate n []) i ≡ Some log → IsPrefix log []
empty_watcher zero i log h = cc
empty_watcher (suc n) zero log h = let e : log ≡ [] = cc in subst (λ (l : List Entry). IsPrefix l []) (sym e) (prefix_none [])
empty_watcher (suc n) (suc i) log h = empty_watcher n i log h

start_keeps : (id : ℕ) (terms : Terms) (watchers : ℕ) → IsSetup id terms watchers → Inv (protocol_start id terms watchers)
start_keeps id terms watchers h = record {
  setup = subst (IsSetup id terms) (sym (length-replicate watchers [])) h;
  referee = record {
    legal = (omega arith, (start_of terms, refl));
    within = omega arith;
    restorable = refl;
    slots = empty_ok id terms 0;
    answered = λ i e q g k. cc;
  };
  x = fresh_seat id terms X;
  o = fresh_seat id terms O;
  watchers = λ i log g. empty_watcher watchers i log g;
  datagrams = λ to p g. absurd (none_sent g.0 g.1);
}

run_keeps : (w : ProtocolState) (hs : List (Event × Outcome)) (v : ProtocolState) → Inv w → Run w hs v → Inv v
run_keeps w [] v inv r = subst Inv (sym r) inv
run_keeps w (h ∷ hs) v inv r = run_keeps r.0 hs v (step_keeps w h.0 h.1 r.0 inv r.1) r.2

pub reached : (w : ProtocolState) → IsReached w → Inv w
reached w h = run_keeps _ h.history w (start_keeps h.id h.terms h.watchers h.setup) h.run

pub followers : (w : ProtocolState) → Inv w → (party : ℕ) (log : List Entry) → 0 < party → log_of w party ≡ Some log → IsPrefix log (saved_log w)
followers w inv zero log l h = absurd (omega (l, arith))
followers w inv (suc zero) log l h = let e : w.x.log ≡ log = cc in subst (λ (r : List Entry). IsPrefix r (saved_log w)) e inv.x.log
followers w inv (suc (suc zero)) log l h = let e : w.o.log ≡ log = cc in subst (λ (r : List Entry). IsPrefix r (saved_log w)) e inv.o.log
followers w inv (suc (suc (suc i))) log l h = inv.watchers i log h

prefix : (w : ProtocolState) → Inv w → (party : ℕ) (log : List Entry) → log_of w party ≡ Some log → IsPrefix log w.referee.log
prefix w inv zero log h = let e : w.referee.log ≡ log = cc in subst (λ (r : List Entry). IsPrefix r w.referee.log) e (prefix_same w.referee.log)
prefix w inv (suc n) log h = prefix_trans log (saved_log w) w.referee.log (followers w inv (suc n) log (omega arith) h) (prefix_take w.referee.saved w.referee.log)

pub agreement : (w : ProtocolState) → Inv w → Agreement w
agreement w inv = record { saved = prefix_take w.referee.saved w.referee.log; followers = followers w inv; datagrams = λ to id rules first list h. (inv.datagrams to (packet.Entries id rules first list) h).1 }

-- the seat that acts is the actor
seat_acts : (terms : Terms) (entries : List Entry) (q : Player) → SeatAfter terms entries (Some q) → ActsAfter terms entries (Seat q)
seat_acts terms entries q h = (h.0, h.1, seated (actor_of h.0) h.2)
  where
    seated : (a : Actor) → ◌≡◌ {A = Option Player} (Some q) (seat_of a) → Seat q ≡ a
    seated Referee e = cc
    seated (Seat p) e = cc
    seated Nobody e = cc

pub answered : (w : ProtocolState) → Inv w → AreAnswered w.terms w.referee.log w.sent
answered w inv zero e q h g = cc
answered w inv (suc i) e q h g =
    let before : suc i - 1 ≡ i = omega arith in
    let g' = subst (λ (n : ℕ). SeatAfter w.terms (take n w.referee.log) (Some q)) before g in
    let c = inv.referee.answered i e q h (seat_acts w.terms (take i w.referee.log) q g') in
    (c.0, (c.1, λ b d. (of_seat w q inv).claims.one (suc i) b c.0 d c.1), c.2)

pub headline : (w : ProtocolState) → Inv w → Headline w
headline w inv = record { prefix = prefix w inv; legal = inv.referee.legal; answered = answered w inv }

pub no_more : (w : ProtocolState) → Inv w → ShowsSavedAlone w
no_more w inv to id rules first list i e h g = within (first + i) ((inv.datagrams to (packet.Entries id rules first list) h).1 i e g)
  where
    within : (n : ℕ) → at_number (saved_log w) n ≡ Some e → n ≤ w.referee.saved
    within zero k = omega arith
    within (suc n) k = let l = get_within (saved_log w) n e k in omega (l, length-take w.referee.saved w.referee.log, arith)

-- ---- what is refused of no packet and no slot

next_claim : (w : ProtocolState) → Inv w → (id : ℕ) (rules : Rules) (sender n : ℕ) (a : Action) → WasSent w.sent 0 (packet.Claim id rules sender n a) → n ≡ length w.referee.log + 1
    → (q : Player) × (sender ≡ party_of q) × IsLegalClaim w.terms (saved_log w) q n a × (saved_log w ≡ w.referee.log)
next_claim w inv id rules sender n a h e =
    let s = (inv.datagrams 0 (packet.Claim id rules sender n a) h).1 in
    let k = s.2.number in
    let l = s.2.within in
    let m = inv.referee.within in
    let all : w.referee.saved ≡ length w.referee.log = omega (arith, k, l, m, e, length-take w.referee.saved w.referee.log) in
    (s.0, s.1, s.2, ap (λ (x : ℕ). take x w.referee.log) all ∙ take_all (length w.referee.log) w.referee.log (omega arith))

before_all : (w : ProtocolState) (q : Player) (n : ℕ) (a : Action) (h : IsLegalClaim w.terms (saved_log w) q n a) → n ≡ length w.referee.log + 1 → saved_log w ≡ w.referee.log → take h.before (saved_log w) ≡ w.referee.log
before_all w q n a h e all =
    let k = h.number in
    let m : h.before ≡ length w.referee.log = omega (k, e, arith) in
    ap (λ (x : ℕ). take x (saved_log w)) m ∙ (ap (take (length w.referee.log)) all ∙ take_all (length w.referee.log) w.referee.log (omega arith))

legal_follower : (w : ProtocolState) → Inv w → (log : List Entry) → IsPrefix log (saved_log w) → IsLegalRecord w.terms log
legal_follower w inv log p =
    let q = prefix_trans log (saved_log w) w.referee.log p (prefix_take w.referee.saved w.referee.log) in
    legal_fronts w.terms log q.0 (subst (IsLegalRecord w.terms) (sym q.1) inv.referee.legal)

no_claim_refused : (w : ProtocolState) → Inv w → IsNoClaimRefused w
no_claim_refused w inv = record {
  not_ahead = λ id rules sender n a h.
      let s = (inv.datagrams 0 (packet.Claim id rules sender n a) h).1 in
      let k = s.2.number in
      let l = s.2.within in
      let m = inv.referee.within in
      omega (k, l, m, arith, length-take w.referee.saved w.referee.log);
  turn = λ id rules sender n a h e.
      let s = next_claim w inv id rules sender n a h e in
      (s.0, s.1, subst (λ (x : List Entry). ActsAfter w.terms x (Seat s.0)) (before_all w s.0 n a s.2 e s.3) s.2.acts);
  legal = λ id rules sender n a h e dice f g.
      let s = next_claim w inv id rules sender n a h e in
      let l : IsNext w.terms w.referee.log s.2.entry = subst (λ (x : List Entry). IsNext w.terms x s.2.entry) (before_all w s.0 n a s.2 e s.3) s.2.legal in
      rolls_any_dice w.terms w.referee.log a (Some trial_dice) dice s.2.entry f s.2.of_action g l;
}

no_entries_refused : (w : ProtocolState) → Inv w → AreNoEntriesRefused w
no_entries_refused w inv = record {
  agree = λ party log to id rules first list l g h i e k m.
      prefix_back log (saved_log w) (first + i) e (followers w inv party log l g) m ((inv.datagrams to (packet.Entries id rules first list) h).1 i e k);
  follow = λ party log to id rules first list l g h m. legal_follower w inv _ (prefix_more log (new_entries log first list) (saved_log w) (followers w inv party log l g) (stood log to id rules first list h m));
}
  where
    stood : (log : List Entry) (to id : ℕ) (rules : Rules) (first : ℕ) (list : List Entry) → WasSent w.sent to (packet.Entries id rules first list) → first ≤ length log + 1
        → (i n : ℕ) (e : Entry) → n ≡ length log + i → slice_get (new_entries log first list) i ≡ Some e → slice_get (saved_log w) n ≡ Some e
    stood log to id rules first list h m i n e k g =
        let d = get_drop (length log + 1 - first) list i (length log + 1 - first + i) e refl g in
        let r : at_number (saved_log w) (first + (length log + 1 - first + i)) ≡ Some e = (inv.datagrams to (packet.Entries id rules first list) h).1 (length log + 1 - first + i) e d in
        let j : first + (length log + 1 - first + i) ≡ suc n = omega (k, m, arith) in
        subst (λ (x : ℕ). at_number (saved_log w) x ≡ Some e) j r

pub no_packet_refused : (w : ProtocolState) → Inv w → IsNoPacketRefused w
no_packet_refused w inv =
    record { sound = inv.datagrams; claims = no_claim_refused w inv; entries = no_entries_refused w inv }

pub no_slot_refused : (w : ProtocolState) → Inv w → IsNoSlotRefused w
no_slot_refused w inv = record {
  referee = whole_slots w.id w.terms 0 w.referee.slots w.referee.restorable inv.referee.slots;
  seats = λ q. whole_slots w.id w.terms (party_of q) (seat_in w q).slots (seat_in w q).restorable (of_seat w q inv).slots;
}

-- ---- what a world relies on from one step to the next

run_more : (w : ProtocolState) (hs : List (Event × Outcome)) (u : ProtocolState) (e : Event) (o : Outcome) (v : ProtocolState) → Run w hs u → Step u e o v → Run w (hs ++ (e, o) ∷ []) v
run_more w [] u e o v r h = (v, subst (λ (x : ProtocolState). Step x e o v) r h, refl)
run_more w (g ∷ hs) u e o v r h = (r.0, r.1, run_more r.0 hs u e o v r.2 h)

pub reached_more : (w : ProtocolState) (e : Event) (o : Outcome) (v : ProtocolState) → IsReached w → Step w e o v → IsReached v
reached_more w e o v h s = record {
  id = h.id;
  terms = h.terms;
  watchers = h.watchers;
  setup = h.setup;
  history = h.history ++ (e, o) ∷ [];
  run = run_more _ h.history w e o v h.run s;
}

-- ---- saves

pub saves_survive : (w : ProtocolState) → Inv w → SavesSurvive w
saves_survive w inv = record {
  referee_saved = λ k v h.
      ap (λ (x : ProtocolState). x.referee.restorable) h.1.3 ∙ (after_whole w.id w.terms 0 w.referee.slots w.referee.restorable (to_save_referee w) h.1.0 h.1.1 inv.referee.slots (referee_of w) refl h.1.2).1;
  referee_failed = λ v h.
      subst (λ (x : ProtocolState). (x.referee.restorable ≡ w.referee.restorable) ⊎ (x.referee.restorable ≡ Some (to_save_referee w))) (sym h.3)
      (after_torn w.id w.terms 0 w.referee.slots w.referee.restorable (to_save_referee w) h.0 h.1 inv.referee.slots (referee_of w) refl h.2).1;
  seat_saved = λ q k new h.
      ap (λ (x : SeatState). x.restorable) h.1.3
      ∙ (after_whole w.id w.terms (party_of q) (seat_in w q).slots (seat_in w q).restorable (to_save_seat w.id w.terms q (seat_in w q)) h.1.0 h.1.1 (of_seat w q inv).slots (party_of_seat w q) refl h.1.2).1;
  seat_failed = λ q new h.
      subst (λ (x : SeatState). (x.restorable ≡ (seat_in w q).restorable) ⊎ (x.restorable ≡ Some (to_save_seat w.id w.terms q (seat_in w q)))) (sym h.3)
      (after_torn w.id w.terms (party_of q) (seat_in w q).slots (seat_in w q).restorable (to_save_seat w.id w.terms q (seat_in w q)) h.0 h.1 (of_seat w q inv).slots (party_of_seat w q) refl h.2).1;
}
