-- The calls of a process of the referee keep the invariant.
use Rattle.std.specs.Prelude.{◌≡◌, ◌⊎◌, ℕ, suc, ◌≤◌, true, false, Some, List, [], ◌∷◌, ◌++◌, Ok, Err, length, take, Contains, All}
use Rattle.std.proofs.Common.{refl, sym, ◌∙◌, ap, subst, inl, inr, arith, length-append}
use Rattle.std.proofs.lemmas.List.{take-append-le, append-nil}
use Rattle.std.proofs.lemmas.List.Elements.{All-weaker, All-cons, All-nil}
use Rattle.bg_board.specs.declared.players.Player.{Player}
use Rattle.bg_board.specs.declared.players.Player.TheVariants.{X, O}
use Rattle.bg_match.specs.Match.{IsNext}
use Rattle.bg_match.specs.declared.entries.Entry.{Entry}
use Rattle.bg_referee.specs.Claims.{IsAccepted}
use Rattle.bg_referee.specs.declared.outcomes.TakeOutcome.{TakeOutcome}
use Rattle.bg_referee.specs.declared.outcomes.TakeOutcome.TheVariants as takes
use Rattle.bg_wire.specs.Saved.SlotLaws.{save_in}
use Rattle.bg_wire.specs.declared.packets.Datagram.{Datagram}
use Rattle.bg_wire.specs.declared.packets.Packet.{Packet}
use Rattle.bg_wire.specs.declared.packets.Packet.TheVariants as packet
use Rattle.bg_protocol.specs.Promises.Agreement.{IsPrefix}
use Rattle.bg_protocol.specs.Promises.Refusals.{IsSound}
use Rattle.bg_protocol.specs.Protocol.Datagrams.{WasSent}
use Rattle.bg_protocol.specs.Protocol.DueStep.{DueStep, with_entry}
use Rattle.bg_protocol.specs.Protocol.Frames.{SendsAtMost}
use Rattle.bg_protocol.specs.Protocol.RefereeTakeStep.{IsOfSaved, ShowsSaved, ReplyStep, RefereeTakeStep}
use Rattle.bg_protocol.specs.Protocol.State.{restored_referee}
use Rattle.bg_protocol.specs.Protocol.SaveStep.{to_save_referee, RefereeSaveStep}
use Rattle.bg_protocol.specs.Protocol.Slots.{entries_in, next_number, SaveWritten, SaveTorn}
use Rattle.bg_protocol.specs.Protocol.State.{ProtocolState, RefereeState, Exists}
use Rattle.bg_protocol.specs.Protocol.TickStep.{SendsOnTick}
use Rattle.bg_protocol.specs.declared.events.Event.TheVariants as events
use Rattle.bg_protocol.specs.declared.events.Outcome.{Outcome}
use Rattle.bg_protocol.specs.declared.events.Outcome.TheVariants as outcomes
use Rattle.bg_protocol.proofs.Protocol.Invariant.{Inv, RefereeOk, referee_steps}
use Rattle.bg_protocol.proofs.Protocol.Lists.{prefix_same, prefix_take, prefix_trans, prefix_run}
use Rattle.bg_protocol.proofs.Protocol.Rows.{step_keeps, referee_of}
use Rattle.bg_protocol.proofs.Protocol.Saving.{after_whole, after_torn}
use Rattle.bg_fences.specs.SharedMatches.{RefereeProcess, Stored, SharedMatch, stored_of, seats_of, settled, at_rest, seen_by_referee, referee_as_seen, referee_process, Becomes}
use Rattle.bg_fences.specs.ProcessCalls.{IsNewest, RefereeGoes, RefereeSaves}
use Rattle.bg_fences.proofs.Lists.{was_in, each_becomes, of_one, none_in}
use Rattle.bg_fences.proofs.Invariant.{Earlier, FencedInv, RefereeProcessOk, SeatsOk, ready, ready_all, referee_from, seats_more}
use Rattle.bg_fences.proofs.Sending.{IsEver, ever_of, MayGo, sends_all, referee_process_more}

abbrev pub IsInOrder : SharedMatch → RefereeProcess → Type 0
IsInOrder m p = RefereeProcessOk m.id m.terms m.sent (ready m) m.referee p

-- one that counts from the newest save is the referee of a state of the protocol
pub as_newest : {earlier : Earlier} (m : SharedMatch) (p : RefereeProcess) → FencedInv earlier m → IsInOrder m p → IsNewest m.referee.restorable p.last_save → Inv (seen_by_referee m p)
as_newest {earlier} m p inv ok is =
    let new = ok.newest is in
    referee_steps (at_rest m) (referee_as_seen m.referee p) inv.base new
    (subst (λ (l : List Entry). IsPrefix (ready m) l) new.restorable (prefix_take (length (settled m)) (settled m)))

-- ---- the process is another afterwards, what it sent may be sent, and all else stays

pub goes : {earlier : Earlier} (m : SharedMatch) (p : RefereeProcess) (v : ProtocolState) (n : SharedMatch) (inv : FencedInv earlier m) → RefereeGoes m p v n
    → (out : List Datagram) → v.sent ≡ m.sent ++ out → All (MayGo m inv) out
    → RefereeProcessOk m.id m.terms (m.sent ++ out) (ready m) m.referee (referee_process v.referee p.last_save) → FencedInv earlier n
goes {earlier} m p v n inv h out e may ok =
    subst (FencedInv earlier) (sym h.2) (subst (λ (s : List Datagram). FencedInv earlier (record m { referees = h.0; sent = s })) (sym e) after)
  where
    sent : FencedInv earlier (record m { sent = m.sent ++ out })
    sent = sends_all m out inv may

    after : FencedInv earlier (record m { referees = h.0; sent = m.sent ++ out })
    after = record {
      base = sent.base;
      referees = each_becomes (RefereeProcessOk m.id m.terms (m.sent ++ out) (ready m) m.referee) m.referees p (referee_process v.referee p.last_save ∷ []) h.0 h.1 sent.referees
          (of_one (RefereeProcessOk m.id m.terms (m.sent ++ out) (ready m) m.referee) (referee_process v.referee p.last_save) ok);
      begun = sent.begun;
      seats = λ q. seats q;
      watching = sent.watching;
    }
      where
        seats : (q : Player) → SeatsOk earlier m.id m.terms (m.sent ++ out) (ready m) q (stored_of (record m { referees = h.0; sent = m.sent ++ out }) q) (seats_of (record m { referees = h.0; sent = m.sent ++ out }) q)
        seats X = sent.seats X
        seats O = sent.seats O

-- nothing was sent
quiet : {earlier : Earlier} (m : SharedMatch) (p : RefereeProcess) (v : ProtocolState) (n : SharedMatch) (inv : FencedInv earlier m) → RefereeGoes m p v n
    → v.sent ≡ m.sent → IsInOrder m (referee_process v.referee p.last_save) → FencedInv earlier n
quiet {earlier} m p v n inv h e ok =
    goes m p v n inv h [] (e ∙ sym (append-nil m.sent)) (All-nil (MayGo m inv))
    (referee_process_more m.id m.terms m.sent [] (ready m) m.referee (referee_process v.referee p.last_save) ok)

-- nothing changed
stays : {earlier : Earlier} (m : SharedMatch) (p : RefereeProcess) (v : ProtocolState) (n : SharedMatch) (inv : FencedInv earlier m) → RefereeGoes m p v n
    → v ≡ seen_by_referee m p → FencedInv earlier n
stays {earlier} m p v n inv h e =
    quiet m p v n inv h (ap (λ (x : ProtocolState). x.sent) e)
    (subst (λ (x : ProtocolState). IsInOrder m (referee_process x.referee p.last_save)) (sym e)
    (inv.referees p (was_in m.referees p (referee_process v.referee p.last_save ∷ []) h.0 h.1)))

-- ---- its record grows by one, saved by none

pushes : (m : SharedMatch) (p : RefereeProcess) (e : Entry) → IsInOrder m p → IsNext m.terms p.log e
    → (IsNewest m.referee.restorable p.last_save → Inv (with_entry (seen_by_referee m p) e))
    → IsInOrder m (referee_process (with_entry (seen_by_referee m p) e).referee p.last_save)
pushes m p e ok next new = record {
  legal = next;
  within = let h = ok.within in omega (h, length-append p.log (e ∷ []), arith);
  told = subst (λ (l : List Entry). IsPrefix l (ready m)) (sym (take-append-le p.saved p.log (e ∷ []) ok.within)) ok.told;
  old = ok.old;
  newest = λ is. (new is).referee;
}

grows : {earlier : Earlier} (m : SharedMatch) (p : RefereeProcess) (v : ProtocolState) (n : SharedMatch) (e : Entry) (inv : FencedInv earlier m) → RefereeGoes m p v n
    → v ≡ with_entry (seen_by_referee m p) e → IsInOrder m (referee_process (with_entry (seen_by_referee m p) e).referee p.last_save) → FencedInv earlier n
grows {earlier} m p v n e inv h is ok =
    quiet m p v n inv h (ap (λ (x : ProtocolState). x.sent) is)
    (subst (λ (x : ProtocolState). IsInOrder m (referee_process x.referee p.last_save)) (sym is) ok)

in_order : {earlier : Earlier} (m : SharedMatch) (p : RefereeProcess) (v : ProtocolState) (n : SharedMatch) → FencedInv earlier m → RefereeGoes m p v n → IsInOrder m p
in_order {earlier} m p v n inv h = inv.referees p (was_in m.referees p (referee_process v.referee p.last_save ∷ []) h.0 h.1)

pub due : {earlier : Earlier} (m : SharedMatch) (p : RefereeProcess) (word : ℕ) (o : Outcome) (v : ProtocolState) (n : SharedMatch) → FencedInv earlier m
    → DueStep (seen_by_referee m p) word o v → RefereeGoes m p v n → FencedInv earlier n
due {earlier} m p word (outcomes.Due (Ok k)) v n inv h g =
    let ok = in_order m p v n inv g in
    grows m p v n h.0 inv g h.2
    (pushes m p h.0 ok h.1.1 (λ is.
    step_keeps (seen_by_referee m p) (events.Due word) (outcomes.Due (Ok k)) (with_entry (seen_by_referee m p) h.0) (as_newest m p inv ok is) (h.0, h.1, refl, h.3)))
due {earlier} m p word (outcomes.Due (Err why)) v n inv h g = stays m p v n inv g h.1
due {earlier} m p word _ v n inv h g = absurd h

-- ---- what it sends is settled

shows : {earlier : Earlier} (m : SharedMatch) (p : RefereeProcess) (inv : FencedInv earlier m) → IsInOrder m p → (x : Packet) → IsOfSaved (seen_by_referee m p) x → IsSound (at_rest m) x × IsEver (ever_of m inv) x
shows {earlier} m p inv ok (packet.Entries id rules start list) h = ((h.0, prefix_run (take p.saved p.log) (ready m) start list ok.told h.1), tt)
shows {earlier} m p inv ok (packet.Want id rules sender held) h = absurd h
shows {earlier} m p inv ok (packet.Claim id rules sender number a) h = absurd h

pub shown_may : {earlier : Earlier} (m : SharedMatch) (p : RefereeProcess) (inv : FencedInv earlier m) → IsInOrder m p → (d : Datagram) → ShowsSaved (seen_by_referee m p) d → MayGo m inv d
shown_may {earlier} m p inv ok d h = let s = shows m p inv ok h.0 h.2 in (h.0, h.1.1, s.0, s.1)

sends_some : {earlier : Earlier} (m : SharedMatch) (p : RefereeProcess) (v : ProtocolState) (n : SharedMatch) (may : Datagram → Type 0) (most : ℕ) (inv : FencedInv earlier m) → RefereeGoes m p v n
    → ((d : Datagram) → may d → ShowsSaved (seen_by_referee m p) d) → SendsAtMost may most (seen_by_referee m p) v → FencedInv earlier n
sends_some {earlier} m p v n may most inv g f h =
    let ok = in_order m p v n inv g in
    goes m p v n inv g h.out (ap (λ (x : ProtocolState). x.sent) h.after)
    (All-weaker may (MayGo m inv) (λ d k. shown_may m p inv ok d (f d k)) h.out h.each)
    (subst (λ (x : ProtocolState). RefereeProcessOk m.id m.terms (m.sent ++ h.out) (ready m) m.referee (referee_process x.referee p.last_save)) (sym h.after)
    (referee_process_more m.id m.terms m.sent h.out (ready m) m.referee p ok))

pub ticks : {earlier : Earlier} (m : SharedMatch) (p : RefereeProcess) (o : Outcome) (v : ProtocolState) (n : SharedMatch) → FencedInv earlier m
    → SendsOnTick (λ d. Exists (seen_by_referee m p) d.to × ShowsSaved (seen_by_referee m p) d) 2 (seen_by_referee m p) o v → RefereeGoes m p v n → FencedInv earlier n
ticks {earlier} m p (outcomes.Sent k) v n inv h g = sends_some m p v n _ 2 inv g (λ d k. k.1) h.0
ticks {earlier} m p outcomes.LinkFault v n inv h g = sends_some m p v n _ 2 inv g (λ d k. k.1) h
ticks {earlier} m p outcomes.Memory v n inv h g = sends_some m p v n _ 2 inv g (λ d k. k.1) h
ticks {earlier} m p _ v n inv h g = absurd h

-- ---- what it takes

accepted_next : (m : SharedMatch) (log : List Entry) (word : ℕ) (x : Packet) (e : Entry) → IsAccepted m.id m.terms log word x e → IsNext m.terms log e
accepted_next m log word (packet.Claim id rules sender number a) e h = h.4
accepted_next m log word (packet.Want id rules sender held) e h = absurd h
accepted_next m log word (packet.Entries id rules start list) e h = absurd h

replies : {earlier : Earlier} (m : SharedMatch) (p : RefereeProcess) (word : ℕ) (x : Packet) (t : TakeOutcome) (v : ProtocolState) (n : SharedMatch) → FencedInv earlier m → WasSent m.sent 0 x
    → ReplyStep (seen_by_referee m p) word x t v → RefereeGoes m p v n → FencedInv earlier n
replies {earlier} m p word x (takes.Accepted k) v n inv came h g =
    let ok = in_order m p v n inv g in
    grows m p v n h.0 inv g h.2
    (pushes m p h.0 ok (accepted_next m p.log word x h.0 h.1) (λ is.
    step_keeps (seen_by_referee m p) (events.Take 0 0 word) (outcomes.Took (takes.Accepted k)) (with_entry (seen_by_referee m p) h.0) (as_newest m p inv ok is)
    (x, came, (h.0, h.1, refl, h.3))))
replies {earlier} m p word x (takes.Answer to answer) v n inv came h g =
    let ok = in_order m p v n inv g in
    let d = h.2.0 in
    let shown : MayGo m inv d = let s = shows m p inv ok answer h.1 in (answer, (h.2.1).1, s.0, s.1) in
    goes m p v n inv g (d ∷ []) (ap (λ (y : ProtocolState). y.sent) h.2.2)
    (All-cons (MayGo m inv) d [] shown (All-nil (MayGo m inv)))
    (subst (λ (y : ProtocolState). RefereeProcessOk m.id m.terms (m.sent ++ d ∷ []) (ready m) m.referee (referee_process y.referee p.last_save)) (sym h.2.2)
    (referee_process_more m.id m.terms m.sent (d ∷ []) (ready m) m.referee p ok))
replies {earlier} m p word x takes.Memory v n inv came h g = stays m p v n inv g h
replies {earlier} m p word x _ v n inv came h g = stays m p v n inv g h.1

pub takes_packet : {earlier : Earlier} (m : SharedMatch) (p : RefereeProcess) (word : ℕ) (o : Outcome) (v : ProtocolState) (n : SharedMatch) → FencedInv earlier m
    → RefereeTakeStep (seen_by_referee m p) word o v → RefereeGoes m p v n → FencedInv earlier n
takes_packet {earlier} m p word (outcomes.Took t) v n inv h g = replies m p word h.0 t v n inv h.1 h.2 g
takes_packet {earlier} m p word outcomes.NoDatagram v n inv h g = stays m p v n inv g h
takes_packet {earlier} m p word (outcomes.NotAPacket why) v n inv h g = stays m p v n inv g h
takes_packet {earlier} m p word outcomes.LinkFault v n inv h g = sends_some m p v n _ 1 inv g (λ d k. k) h
takes_packet {earlier} m p word outcomes.Memory v n inv h g = sends_some m p v n _ 1 inv g (λ d k. k) h
takes_packet {earlier} m p word _ v n inv h g = absurd h

-- ---- saving: what the slots restore is as before, or the next save, whose entries go on

abbrev Moves : Stored → Stored → Type 0
Moves old new =
    (new.restorable ≡ old.restorable)
    ⊎ ((save_in new.restorable ≡ suc (save_in old.restorable)) × IsPrefix (entries_in old.restorable) (entries_in new.restorable))

moves_log : (old new : Stored) → Moves old new → IsPrefix (entries_in old.restorable) (entries_in new.restorable)
moves_log old new (inl e) = subst (λ (l : List Entry). IsPrefix (entries_in old.restorable) l) (sym (ap entries_in e)) (prefix_same (entries_in old.restorable))
moves_log old new (inr h) = h.1

moves_ready : (m : SharedMatch) (k : Stored) → Moves m.referee k → IsPrefix (ready m) (ready (record m { referee = k }))
moves_ready m k h =
    subst (λ (l : List Entry). IsPrefix l (ready (record m { referee = k }))) (sym (ready_all m))
    (subst (λ (l : List Entry). IsPrefix (settled m) l) (sym (ready_all (record m { referee = k }))) (moves_log m.referee k h))

-- another process: where the number moved on, it counts from an old save
other : (m : SharedMatch) (k : Stored) → Inv (at_rest (record m { referee = k })) → (h : Moves m.referee k) → (p : RefereeProcess) → IsInOrder m p
    → RefereeProcessOk m.id m.terms m.sent (ready (record m { referee = k })) k p
other m k base h p ok = record {
  legal = ok.legal;
  within = ok.within;
  told = prefix_trans (take p.saved p.log) (ready m) (ready (record m { referee = k })) ok.told (moves_ready m k h);
  old = no_newer h;
  newest = λ is. newest h is;
}
  where
    no_newer : Moves m.referee k → p.last_save ≤ save_in k.restorable
    no_newer (inl e) = let l : save_in k.restorable ≡ save_in m.referee.restorable = ap save_in e in omega (ok.old, l, arith)
    no_newer (inr g) = omega (ok.old, g.0, arith)

    newest : Moves m.referee k → IsNewest k.restorable p.last_save → RefereeOk m.id m.terms m.sent (referee_as_seen k p)
    newest (inl e) is =
        let new = ok.newest (is ∙ ap save_in e) in
        record {
          legal = new.legal;
          within = new.within;
          restorable = ap entries_in e ∙ new.restorable;
          slots = base.referee.slots;
          answered = new.answered;
        }
    newest (inr g) is = let l : p.last_save ≡ save_in k.restorable = is in absurd (omega (ok.old, g.0, l, arith))

kept_moves : {earlier : Earlier} (m : SharedMatch) (k : Stored) (rs : List RefereeProcess) → FencedInv earlier m → Inv (at_rest (record m { referee = k })) → Moves m.referee k
    → ((p : RefereeProcess) → Contains rs p → RefereeProcessOk m.id m.terms m.sent (ready (record m { referee = k })) k p)
    → FencedInv earlier (record m { referees = rs; referee = k })
kept_moves {earlier} m k rs inv base h all = record {
  base = base;
  referees = all;
  begun = λ found w. other m k base h (referee_from found) (inv.begun found w);
  seats = seats;
  watching = λ p c. let w = inv.watching p c in (w.0, prefix_trans p.log (ready m) (ready (record m { referee = k })) w.1 (moves_ready m k h));
}
  where
    seats : (q : Player) → SeatsOk earlier m.id m.terms m.sent (ready (record m { referee = k })) q (stored_of (record m { referees = rs; referee = k }) q) (seats_of (record m { referees = rs; referee = k }) q)
    seats X = seats_more m.id m.terms m.sent (ready m) (ready (record m { referee = k })) X m.x m.xs (moves_ready m k h) (inv.seats X)
    seats O = seats_more m.id m.terms m.sent (ready m) (ready (record m { referee = k })) O m.o m.os (moves_ready m k h) (inv.seats O)

-- the state at rest after a save that was written, or torn
abbrev written_state : SharedMatch → RefereeProcess → Stored → ProtocolState
written_state m p k = record (seen_by_referee m p) { referee = record { up = true; log = p.log; saved = length p.log; slots = k.slots; restorable = k.restorable } }

abbrev torn_state : SharedMatch → RefereeProcess → Stored → ProtocolState
torn_state m p k = record (seen_by_referee m p) { referee = restored_referee k.slots k.restorable false }

rests : (m : SharedMatch) (p : RefereeProcess) (r : RefereeState) → Inv (record (seen_by_referee m p) { referee = r }) → Inv (at_rest (record m { referee = record { slots = r.slots; restorable = r.restorable } }))
rests m p r inv =
    step_keeps (record (seen_by_referee m p) { referee = r }) (events.Restart 0) outcomes.Restarted
    (at_rest (record m { referee = record { slots = r.slots; restorable = r.restorable } })) inv refl

saved_log_of : {earlier : Earlier} (m : SharedMatch) (p : RefereeProcess) → FencedInv earlier m → IsInOrder m p → IsNewest m.referee.restorable p.last_save → IsPrefix (settled m) p.log
saved_log_of {earlier} m p inv ok is =
    subst (λ (l : List Entry). IsPrefix l p.log) (sym (ok.newest is).restorable) (prefix_take p.saved p.log)

written : {earlier : Earlier} (m : SharedMatch) (p : RefereeProcess) (number : ℕ) (k : Stored) (rs : List RefereeProcess) → FencedInv earlier m → IsInOrder m p → IsNewest m.referee.restorable p.last_save
    → number ≡ next_number m.referee.restorable → SaveWritten (to_save_referee (seen_by_referee m p)) m.referee.slots k.slots k.restorable
    → Becomes m.referees p (record { log = p.log; saved = length p.log; last_save = number } ∷ []) rs → FencedInv earlier (record m { referees = rs; referee = k })
written {earlier} m p number k rs inv ok is next h b =
    kept_moves m k rs inv base moves
    (each_becomes (RefereeProcessOk m.id m.terms m.sent (ready (record m { referee = k })) k) m.referees p (new ∷ []) rs b
    (λ x c. other m k base moves x (inv.referees x c))
    (of_one (RefereeProcessOk m.id m.terms m.sent (ready (record m { referee = k })) k) new own))
  where
    new : RefereeProcess
    new = record { log = p.log; saved = length p.log; last_save = number }

    w : Inv (seen_by_referee m p)
    w = as_newest m p inv ok is

    after : Inv (written_state m p k)
    after = step_keeps (seen_by_referee m p) (events.Save 0) (outcomes.Saved number) (written_state m p k) w (next, (k.slots, k.restorable, h, refl))

    base : Inv (at_rest (record m { referee = k }))
    base = rests m p (record { up = true; log = p.log; saved = length p.log; slots = k.slots; restorable = k.restorable }) after

    restored : k.restorable ≡ Some (to_save_referee (seen_by_referee m p))
    restored = (after_whole m.id m.terms 0 m.referee.slots m.referee.restorable (to_save_referee (seen_by_referee m p)) k.slots k.restorable w.referee.slots (referee_of (seen_by_referee m p)) refl h).1

    moves : Moves m.referee k
    moves = inr (ap save_in restored, subst (λ (l : List Entry). IsPrefix (settled m) l) (sym (ap entries_in restored)) (saved_log_of m p inv ok is))

    own : RefereeProcessOk m.id m.terms m.sent (ready (record m { referee = k })) k new
    own = record {
      legal = ok.legal;
      within = omega arith;
      told = subst (λ (l : List Entry). IsPrefix (take (length p.log) p.log) l) (sym (ready_all (record m { referee = k }) ∙ ap entries_in restored)) (prefix_take (length p.log) p.log);
      old = let l : save_in k.restorable ≡ next_number m.referee.restorable = ap save_in restored in omega (l, next, arith);
      newest = λ e. after.referee;
    }

torn : {earlier : Earlier} (m : SharedMatch) (p : RefereeProcess) (k : Stored) (rs : List RefereeProcess) → FencedInv earlier m → IsInOrder m p → IsNewest m.referee.restorable p.last_save
    → SaveTorn (to_save_referee (seen_by_referee m p)) m.referee.slots k.slots k.restorable
    → Becomes m.referees p [] rs → FencedInv earlier (record m { referees = rs; referee = k })
torn {earlier} m p k rs inv ok is h b =
    kept_moves m k rs inv base moves
    (each_becomes (RefereeProcessOk m.id m.terms m.sent (ready (record m { referee = k })) k) m.referees p [] rs b
    (λ x c. other m k base moves x (inv.referees x c)) (λ x c. absurd (none_in x c)))
  where
    w : Inv (seen_by_referee m p)
    w = as_newest m p inv ok is

    base : Inv (at_rest (record m { referee = k }))
    base = rests m p (restored_referee k.slots k.restorable false)
        (step_keeps (seen_by_referee m p) (events.Save 0) outcomes.SaveFault (torn_state m p k) w (k.slots, k.restorable, h, refl))

    moves : Moves m.referee k
    moves = of (after_torn m.id m.terms 0 m.referee.slots m.referee.restorable (to_save_referee (seen_by_referee m p)) k.slots k.restorable w.referee.slots (referee_of (seen_by_referee m p)) refl h).1
      where
        of : (k.restorable ≡ m.referee.restorable) ⊎ (k.restorable ≡ Some (to_save_referee (seen_by_referee m p))) → Moves m.referee k
        of (inl e) = inl e
        of (inr e) = inr (ap save_in e, subst (λ (l : List Entry). IsPrefix (settled m) l) (sym (ap entries_in e)) (saved_log_of m p inv ok is))

-- the process is gone
gone : {earlier : Earlier} (m : SharedMatch) (p : RefereeProcess) (rs : List RefereeProcess) → FencedInv earlier m → Becomes m.referees p [] rs → FencedInv earlier (record m { referees = rs })
gone {earlier} m p rs inv b = record {
  base = inv.base;
  referees = each_becomes (IsInOrder m) m.referees p [] rs b inv.referees (λ x c. absurd (none_in x c));
  begun = inv.begun;
  seats = seats;
  watching = inv.watching;
}
  where
    seats : (q : Player) → SeatsOk earlier m.id m.terms m.sent (ready m) q (stored_of (record m { referees = rs }) q) (seats_of (record m { referees = rs }) q)
    seats X = inv.seats X
    seats O = inv.seats O

-- the same slots, whatever state they are read from
of_state : {earlier : Earlier} (m : SharedMatch) (v u : ProtocolState) (rs : List RefereeProcess) → v ≡ u
    → FencedInv earlier (record m { referees = rs; referee = record { slots = u.referee.slots; restorable = u.referee.restorable } })
    → FencedInv earlier (record m { referees = rs; referee = record { slots = v.referee.slots; restorable = v.referee.restorable } })
of_state {earlier} m v u rs e h = subst (λ (x : ProtocolState). FencedInv earlier (record m { referees = rs; referee = record { slots = x.referee.slots; restorable = x.referee.restorable } })) (sym e) h

pub saves : {earlier : Earlier} (m : SharedMatch) (p : RefereeProcess) (o : Outcome) (n : SharedMatch) → FencedInv earlier m → RefereeSaves m p o n → FencedInv earlier n
saves {earlier} m p (outcomes.Saved number) n inv h =
    let s = (h.3).1 in
    let k : Stored = record { slots = s.0; restorable = s.1 } in
    let b : Becomes m.referees p (record { log = p.log; saved = length p.log; last_save = number } ∷ []) h.1 =
    subst (λ (x : ProtocolState). Becomes m.referees p (referee_process x.referee number ∷ []) h.1) s.3 h.4 in
    let ok = inv.referees p (was_in m.referees p (referee_process (h.0).referee number ∷ []) h.1 h.4) in
    subst (FencedInv earlier) (sym h.5) (of_state m h.0 (written_state m p k) h.1 s.3 (written m p number k h.1 inv ok h.2 (h.3).0 s.2 b))
saves {earlier} m p outcomes.SaveFault n inv h = at_place h.2
  where
    ok : IsInOrder m p
    ok = inv.referees p (was_in m.referees p [] h.0 h.1)

    at_place : (n ≡ record m { referees = h.0 })
        ⊎ ((v : ProtocolState) × IsNewest m.referee.restorable p.last_save × RefereeSaveStep (seen_by_referee m p) outcomes.SaveFault v
        × (n ≡ record m { referees = h.0; referee = record { slots = v.referee.slots; restorable = v.referee.restorable } })) → FencedInv earlier n
    at_place (inl e) = subst (FencedInv earlier) (sym e) (gone m p h.0 inv h.1)
    at_place (inr g) =
        let s = g.2 in
        let k : Stored = record { slots = s.0; restorable = s.1 } in
        subst (FencedInv earlier) (sym g.3) (of_state m g.0 (torn_state m p k) h.0 s.3 (torn m p k h.0 inv ok g.1 s.2 h.1))
saves {earlier} m p outcomes.SavesSpent n inv h = subst (FencedInv earlier) (sym h) inv
saves {earlier} m p outcomes.Memory n inv h = subst (FencedInv earlier) (sym h) inv
saves {earlier} m p _ n inv h = absurd h

-- other processes, each in order
pub with_referees : {earlier : Earlier} (m : SharedMatch) (rs : List RefereeProcess) → FencedInv earlier m → ((p : RefereeProcess) → Contains rs p → IsInOrder m p) → FencedInv earlier (record m { referees = rs })
with_referees {earlier} m rs inv all = record { base = inv.base; referees = all; begun = inv.begun; seats = seats; watching = inv.watching }
  where
    seats : (q : Player) → SeatsOk earlier m.id m.terms m.sent (ready m) q (stored_of (record m { referees = rs }) q) (seats_of (record m { referees = rs }) q)
    seats X = inv.seats X
    seats O = inv.seats O
