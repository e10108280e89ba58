-- The calls of a process of a seat keep the invariant.
use Rattle.std.specs.Prelude.{◌≡◌, ◌⊎◌, ℕ, suc, ◌+◌, ◌<◌, ◌≤◌, Bool, true, false, Option, Some, None, List, [], ◌∷◌, ◌++◌, Ok, Err, length, nat_lt, if◌then◌else◌, Contains, All}
use Rattle.std.proofs.Common.{refl, sym, ◌∙◌, ap, subst, inl, inr, arith}
use Rattle.std.proofs.lemmas.Bool.{cases_Bool}
use Rattle.std.proofs.lemmas.List.Elements.{All-weaker}
use Rattle.bg_board.specs.declared.players.Player.{Player}
use Rattle.bg_board.specs.declared.players.Player.TheVariants.{X, O}
use Rattle.bg_match.specs.Match.{IsLegalRecord, ActsAfter}
use Rattle.bg_match.specs.Terms.{Terms, rules_of}
use Rattle.bg_match.specs.declared.actions.Action.{Action}
use Rattle.bg_match.specs.declared.entries.Entry.{Entry}
use Rattle.bg_match.specs.declared.phases.Actor.TheVariants.{Seat}
use Rattle.bg_party.specs.Claims.{CanClaim, claim_number}
use Rattle.bg_wire.specs.Parties.{party_of}
use Rattle.bg_wire.specs.Saved.Restoring.{IsSavedBy}
use Rattle.bg_wire.specs.Saved.SavedText.{SavedParts}
use Rattle.bg_wire.specs.Saved.SlotLaws.{Slots, save_in}
use Rattle.bg_wire.specs.declared.packets.Datagram.{Datagram}
use Rattle.bg_wire.specs.declared.packets.Packet.TheVariants as packet
use Rattle.bg_protocol.specs.Promises.Agreement.{IsPrefix}
use Rattle.bg_protocol.specs.Promises.Refusals.{IsLegalClaim}
use Rattle.bg_protocol.specs.Protocol.ChooseStep.{ChooseStep}
use Rattle.bg_protocol.specs.Protocol.Datagrams.{Carries, Claimed}
use Rattle.bg_protocol.specs.Protocol.FollowerTakeStep.{FollowerTakeStep}
use Rattle.bg_protocol.specs.Protocol.Frames.{SendsAtMost}
use Rattle.bg_protocol.specs.Protocol.State.{restored_seat}
use Rattle.bg_protocol.specs.Protocol.SaveStep.{SeatSaveStep, to_save_seat}
use Rattle.bg_protocol.specs.Protocol.Slots.{claim_in, next_number, SaveWritten, SaveTorn}
use Rattle.bg_protocol.specs.Protocol.State.{ProtocolState, SeatState, Exists}
use Rattle.bg_protocol.specs.Protocol.TickStep.{SendsOnTick, want_packet, seat_packet}
use Rattle.bg_protocol.specs.declared.events.Event.TheVariants as events
use Rattle.bg_protocol.specs.declared.events.Outcome.{Outcome}
use Rattle.bg_protocol.specs.declared.events.Outcome.TheVariants as outcomes
use Rattle.bg_protocol.proofs.Protocol.Invariant.{Inv, SeatOk, LegalClaim, seat_steps}
use Rattle.bg_protocol.proofs.Protocol.Lists.{prefix_length, prefix_whole}
use Rattle.bg_protocol.proofs.Protocol.Rows.{same_number, step_keeps, take_at_follower}
use Rattle.bg_protocol.proofs.Protocol.Saving.{SlotsOk, after_whole, after_torn}
use Rattle.bg_fences.specs.SharedMatches.{SeatProcess, Stored, SharedMatch, stored_of, seats_of, with_stored, with_seats, settled, at_rest, seen_by_seat, seat_as_seen, seat_process, Becomes}
use Rattle.bg_fences.specs.ProcessCalls.{IsNewest, SeatGoes, SeatSaves}
use Rattle.bg_fences.proofs.Lists.{was_in, each_becomes, of_one, none_in}
use Rattle.bg_fences.proofs.Invariant.{Earlier, FencedInv, SeatProcessOk, SeatsOk, EverKept, claims_kept, ready, ready_all, seat_from}
use Rattle.bg_fences.proofs.Sending.{ever_of, MayGo, sends_all}
use Rattle.bg_fences.proofs.Claims.{ever_with, with_old, with_new, ever_next}

-- ---- other processes of a seat

pub change_seats : {earlier : Earlier} (m : SharedMatch) (q : Player) (fs : List SeatProcess) → FencedInv earlier m → SeatsOk earlier m.id m.terms m.sent (ready m) q (stored_of m q) fs → FencedInv earlier (with_seats m q fs)
change_seats {earlier} m X fs inv new = record { base = inv.base; referees = inv.referees; begun = inv.begun; seats = seats; watching = inv.watching }
  where
    seats : (q : Player) → SeatsOk earlier m.id m.terms m.sent (ready m) q (stored_of (record m { xs = fs }) q) (seats_of (record m { xs = fs }) q)
    seats X = new
    seats O = inv.seats O
change_seats {earlier} m O fs inv new = record { base = inv.base; referees = inv.referees; begun = inv.begun; seats = seats; watching = inv.watching }
  where
    seats : (q : Player) → SeatsOk earlier m.id m.terms m.sent (ready m) q (stored_of (record m { os = fs }) q) (seats_of (record m { os = fs }) q)
    seats X = inv.seats X
    seats O = new

seats_become : {earlier : Earlier} (id : ℕ) (terms : Terms) (sent : List Datagram) (S : List Entry) (q : Player) (k : Stored) (fs : List SeatProcess) (f : SeatProcess) (after news : List SeatProcess)
    → (ok : SeatsOk earlier id terms sent S q k fs) → Becomes fs f after news → ((x : SeatProcess) → Contains after x → SeatProcessOk id terms sent S q k ok.ever x) → SeatsOk earlier id terms sent S q k news
seats_become {earlier} id terms sent S q k fs f after news ok b new = record {
  ever = ok.ever;
  kept = ok.kept;
  in_slots = ok.in_slots;
  was_sent = ok.was_sent;
  each = each_becomes (SeatProcessOk id terms sent S q k ok.ever) fs f after news b ok.each new;
  begun = ok.begun;
}

one_becomes : {earlier : Earlier} (m : SharedMatch) (q : Player) (f g : SeatProcess) (fs : List SeatProcess) → (inv : FencedInv earlier m) → Becomes (seats_of m q) f (g ∷ []) fs
    → SeatProcessOk m.id m.terms m.sent (ready m) q (stored_of m q) (ever_of m inv q) g → FencedInv earlier (with_seats m q fs)
one_becomes {earlier} m q f g fs inv b ok =
    change_seats m q fs inv (seats_become m.id m.terms m.sent (ready m) q (stored_of m q) (seats_of m q) f (g ∷ []) fs (inv.seats q) b
    (of_one (SeatProcessOk m.id m.terms m.sent (ready m) q (stored_of m q) (ever_of m inv q)) g ok))

-- ---- taking

pub with_log : (id : ℕ) (terms : Terms) (sent : List Datagram) (S : List Entry) (q : Player) (f : SeatState) (log : List Entry) → SeatOk id terms sent S q f → IsPrefix log S → SeatOk id terms sent S q (record f { log = log })
with_log id terms sent S q f log s p = record {
  log = p;
  kept_log = s.kept_log;
  slots = s.slots;
  claim_old = s.claim_old;
  claim_new = s.claim_new;
  claim_legal = s.claim_legal;
  kept_legal = s.kept_legal;
  claims = s.claims;
}

pub takes_packet : {earlier : Earlier} (m : SharedMatch) (q : Player) (f : SeatProcess) (o : Outcome) (log : List Entry) (fs : List SeatProcess) → FencedInv earlier m
    → FollowerTakeStep m.id m.terms m.sent (party_of q) o f.log log → Becomes (seats_of m q) f (record f { log = log } ∷ []) fs → FencedInv earlier (with_seats m q fs)
takes_packet {earlier} m q f o log fs inv h b =
    let ok = (inv.seats q).each f (was_in (seats_of m q) f (record f { log = log } ∷ []) fs b) in
    let p = take_at_follower (at_rest m) (party_of q) o f.log log inv.base ok.log h in
    one_becomes m q f (record f { log = log }) fs inv b
    (record {
      log = p;
      old = ok.old;
      legal = ok.legal;
      was_saved = ok.was_saved;
      newest = λ is. with_log m.id m.terms m.sent (ready m) q (seat_as_seen (stored_of m q) f) log (ok.newest is) p;
    })

-- ---- choosing

chosen_legal : (terms : Terms) (S : List Entry) (q : Player) (log : List Entry) (claim : Option (ℕ × Action)) (a : Action) → IsPrefix log S → CanClaim terms q log claim a → IsLegalClaim terms S q (length log + 1) a
chosen_legal terms S q log claim a p h =
    let front = prefix_whole log S p in
    record {
      before = length log;
      number = refl;
      within = prefix_length log S p;
      acts = subst (λ (l : List Entry). ActsAfter terms l (Seat q)) (sym front) h.0;
      entry = h.2.0;
      of_action = h.2.1;
      legal = subst (λ (l : List Entry). IsLegalRecord terms (l ++ h.2.0 ∷ [])) (sym front) h.2.2;
    }

abbrev chosen : SeatState → Action → SeatState
chosen f a = record f { claim = Some (length f.log + 1, a); claim_saved = false }

-- one that counts from the newest save is the seat of a state of the protocol
pub as_newest : {earlier : Earlier} (m : SharedMatch) (q : Player) (f : SeatProcess) (inv : FencedInv earlier m) → SeatProcessOk m.id m.terms m.sent (ready m) q (stored_of m q) (ever_of m inv q) f
    → IsNewest (stored_of m q).restorable f.last_save → Inv (seen_by_seat m q f)
as_newest {earlier} m X f inv ok is = seat_steps (at_rest m) X (seat_as_seen m.x f) inv.base (ok.newest is)
as_newest {earlier} m O f inv ok is = seat_steps (at_rest m) O (seat_as_seen m.o f) inv.base (ok.newest is)

chosen_ok : (m : SharedMatch) (q : Player) (f : SeatProcess) (a : Action) → Inv (seen_by_seat m q f) → CanClaim m.terms q f.log f.claim a
    → SeatOk m.id m.terms m.sent (ready m) q (chosen (seat_as_seen (stored_of m q) f) a)
chosen_ok m X f a inv h =
    let new = chosen (seat_as_seen m.x f) a in
    (step_keeps (seen_by_seat m X f) (events.Choose X a) (outcomes.Chose (Ok (length f.log + 1))) (record (at_rest m) { x = new }) inv (new, (h, refl, refl), refl)).x
chosen_ok m O f a inv h =
    let new = chosen (seat_as_seen m.o f) a in
    (step_keeps (seen_by_seat m O f) (events.Choose O a) (outcomes.Chose (Ok (length f.log + 1))) (record (at_rest m) { o = new }) inv (new, (h, refl, refl), refl)).o

pub chooses : {earlier : Earlier} (m : SharedMatch) (q : Player) (f : SeatProcess) (a : Action) (o : Outcome) (new : SeatState) (fs : List SeatProcess) → FencedInv earlier m
    → ChooseStep m.terms q a o (seat_as_seen (stored_of m q) f) new → Becomes (seats_of m q) f (seat_process new f.last_save ∷ []) fs → FencedInv earlier (with_seats m q fs)
chooses {earlier} m q f a (outcomes.Chose (Ok n)) new fs inv h b =
    let ok = (inv.seats q).each f (was_in (seats_of m q) f (seat_process new f.last_save ∷ []) fs b) in
    let core = seat_as_seen (stored_of m q) f in
    let is : new ≡ chosen core a = h.2 ∙ ap (λ (i : ℕ). record core { claim = Some (i, a); claim_saved = false }) h.1 in
    one_becomes m q f (seat_process new f.last_save) fs inv b
    (subst (λ (x : SeatState). SeatProcessOk m.id m.terms m.sent (ready m) q (stored_of m q) (ever_of m inv q) (seat_process x f.last_save)) (sym is)
    (record {
      log = ok.log;
      old = ok.old;
      legal = chosen_legal m.terms (ready m) q f.log f.claim a ok.log h.0;
      was_saved = λ e. cc;
      newest = λ k. chosen_ok m q f a (as_newest m q f inv ok k) h.0;
    }))
chooses {earlier} m q f a (outcomes.Chose (Err why)) new fs inv h b =
    let ok = (inv.seats q).each f (was_in (seats_of m q) f (seat_process new f.last_save ∷ []) fs b) in
    one_becomes m q f (seat_process new f.last_save) fs inv b
    (subst (λ (x : SeatState). SeatProcessOk m.id m.terms m.sent (ready m) q (stored_of m q) (ever_of m inv q) (seat_process x f.last_save)) (sym h.1) ok)
chooses {earlier} m q f a _ new fs inv h b = absurd h

-- ---- sending

pub within_ready : (m : SharedMatch) (log : List Entry) → IsPrefix log (ready m) → length log ≤ length (settled m)
within_ready m log p = let k = prefix_length log (ready m) p in let l : length (ready m) ≡ length (settled m) = ap length (ready_all m) in omega (k, l, arith)

pub want_goes : {earlier : Earlier} (m : SharedMatch) (inv : FencedInv earlier m) (d : Datagram) (party : ℕ) (log : List Entry) → Exists (at_rest m) party → IsPrefix log (ready m) → Carries d 0 (want_packet m.id m.terms party log) → MayGo m inv d
want_goes {earlier} m inv d party log there p c = (want_packet m.id m.terms party log, c.1, ((refl, refl), there, within_ready m log p), tt)

there : (m : SharedMatch) (q : Player) → Exists (at_rest m) (party_of q)
there m X = omega arith
there m O = omega arith

seat_goes : {earlier : Earlier} (m : SharedMatch) (q : Player) (inv : FencedInv earlier m) (log : List Entry) (claim : Option (ℕ × Action)) (is_saved : Bool) (d : Datagram) → IsPrefix log (ready m)
    → LegalClaim m.terms (ready m) q claim → (is_saved ≡ true → (n : ℕ) (a : Action) → claim ≡ Some (n, a) → Contains (ever_of m inv q) (n, a))
    → Carries d 0 (seat_packet m.id m.terms (party_of q) log claim is_saved) → MayGo m inv d
seat_goes {earlier} m q inv log claim is_saved d p legal was c = at_claim claim is_saved legal was c
  where
    want : Carries d 0 (want_packet m.id m.terms (party_of q) log) → MayGo m inv d
    want k = want_goes m inv d (party_of q) log (there m q) p k

    at_test : (k : ℕ × Action) (b : Bool) → LegalClaim m.terms (ready m) q (Some k) → Contains (ever_of m inv q) (k.0, k.1)
        → Carries d 0 (if b then packet.Claim m.id (rules_of m.terms) (party_of q) k.0 k.1 else want_packet m.id m.terms (party_of q) log) → MayGo m inv d
    at_test k true l e g =
        (packet.Claim m.id (rules_of m.terms) (party_of q) k.0 k.1, g.1, ((refl, refl), (q, refl, l)), λ r i. subst (λ (s : Player). Contains (ever_of m inv s) (k.0, k.1)) (same_number q r i) e)
    at_test k false l e g = want g

    at_claim : (k : Option (ℕ × Action)) (b : Bool) → LegalClaim m.terms (ready m) q k → (b ≡ true → (n : ℕ) (a : Action) → k ≡ Some (n, a) → Contains (ever_of m inv q) (n, a))
        → Carries d 0 (seat_packet m.id m.terms (party_of q) log k b) → MayGo m inv d
    at_claim None b l e g = want g
    at_claim (Some k) false l e g = want g
    at_claim (Some k) true l e g = at_test k (nat_lt (length log) k.0) l (e refl k.0 k.1 refl) g

abbrev pub MaySay : SharedMatch → Player → SeatProcess → Datagram → Type 0
MaySay m q f d = Carries d 0 (seat_packet m.id m.terms (party_of q) f.log f.claim f.claim_saved)

says : {earlier : Earlier} (m : SharedMatch) (q : Player) (f : SeatProcess) (inv : FencedInv earlier m) → SeatProcessOk m.id m.terms m.sent (ready m) q (stored_of m q) (ever_of m inv q) f
    → (out : List Datagram) → All (MaySay m q f) out → All (MayGo m inv) out
says {earlier} m q f inv ok out each =
    All-weaker (MaySay m q f) (MayGo m inv) (λ d c. seat_goes m q inv f.log f.claim f.claim_saved d ok.log ok.legal ok.was_saved c) out each

sends_some : {earlier : Earlier} (m : SharedMatch) (q : Player) (f : SeatProcess) (v : ProtocolState) (n : SharedMatch) → FencedInv earlier m → SeatGoes m q f v n → SendsAtMost (MaySay m q f) 1 (seen_by_seat m q f) v → FencedInv earlier n
sends_some {earlier} m X f v n inv g h =
    let b : Becomes m.xs f (f ∷ []) g.0 = subst (λ (x : ProtocolState). Becomes m.xs f (seat_process x.x f.last_save ∷ []) g.0) h.after g.1 in
    let ok = (inv.seats X).each f (was_in m.xs f (f ∷ []) g.0 b) in
    let sent = sends_all m h.out inv (says m X f inv ok h.out h.each) in
    let e : v.sent ≡ m.sent ++ h.out = ap (λ (x : ProtocolState). x.sent) h.after in
    subst (FencedInv earlier) (sym g.2)
    (subst (λ (s : List Datagram). FencedInv earlier (record m { xs = g.0; sent = s })) (sym e)
    (one_becomes (record m { sent = m.sent ++ h.out }) X f f g.0 sent b ((sent.seats X).each f (was_in m.xs f (f ∷ []) g.0 b))))
sends_some {earlier} m O f v n inv g h =
    let b : Becomes m.os f (f ∷ []) g.0 = subst (λ (x : ProtocolState). Becomes m.os f (seat_process x.o f.last_save ∷ []) g.0) h.after g.1 in
    let ok = (inv.seats O).each f (was_in m.os f (f ∷ []) g.0 b) in
    let sent = sends_all m h.out inv (says m O f inv ok h.out h.each) in
    let e : v.sent ≡ m.sent ++ h.out = ap (λ (x : ProtocolState). x.sent) h.after in
    subst (FencedInv earlier) (sym g.2)
    (subst (λ (s : List Datagram). FencedInv earlier (record m { os = g.0; sent = s })) (sym e)
    (one_becomes (record m { sent = m.sent ++ h.out }) O f f g.0 sent b ((sent.seats O).each f (was_in m.os f (f ∷ []) g.0 b))))

pub ticks : {earlier : Earlier} (m : SharedMatch) (q : Player) (f : SeatProcess) (o : Outcome) (v : ProtocolState) (n : SharedMatch) → FencedInv earlier m → SendsOnTick (MaySay m q f) 1 (seen_by_seat m q f) o v → SeatGoes m q f v n → FencedInv earlier n
ticks {earlier} m q f (outcomes.Sent k) v n inv h g = sends_some m q f v n inv g h.0
ticks {earlier} m q f outcomes.LinkFault v n inv h g = sends_some m q f v n inv g h
ticks {earlier} m q f outcomes.Memory v n inv h g = sends_some m q f v n inv g h
ticks {earlier} m q f _ v n inv h g = absurd h

-- ---- saving

pub record Moved (earlier : Earlier) (id : ℕ) (terms : Terms) (sent : List Datagram) (S : List Entry) (q : Player) (k : Stored) (fs : List SeatProcess) : Type 0 where
  pub rest : SeatOk id terms sent S q (restored_seat k.slots k.restorable true)
  pub all : SeatsOk earlier id terms sent S q k fs

seat_by : (id : ℕ) (terms : Terms) (q : Player) (f : SeatState) → IsSavedBy (party_of q) id terms (to_save_seat id terms q f)
seat_by id terms q f = record { party = refl; id = refl; terms = refl }

module _ {earlier : Earlier} (id : ℕ) (terms : Terms) (sent : List Datagram) (S : List Entry) (q : Player) (k : Stored) (fs : List SeatProcess) (f : SeatProcess)
    (base : SeatOk id terms sent S q (restored_seat k.slots k.restorable true)) (all : SeatsOk earlier id terms sent S q k fs)
    (mine : SeatProcessOk id terms sent S q k all.ever f) (is : IsNewest k.restorable f.last_save) where
  -- nothing else is restored: the slots alone changed
  same_restored : (slots : Slots) (news : List SeatProcess) → SlotsOk id terms (party_of q) slots k.restorable → Becomes fs f [] news
      → Moved earlier id terms sent S q (record { slots = slots; restorable = k.restorable }) news
  same_restored slots news ok b = record {
    rest = in_slots (restored_seat k.slots k.restorable true) base refl;
    all = record {
      ever = all.ever;
      kept = all.kept;
      in_slots = all.in_slots;
      was_sent = all.was_sent;
      each = each_becomes (SeatProcessOk id terms sent S q (record { slots = slots; restorable = k.restorable }) all.ever) fs f [] news b
          (λ x c. other x (all.each x c)) (λ x c. absurd (none_in x c));
      begun = λ found w. other (seat_from found) (all.begun found w);
    };
  }
    where
      in_slots : (g : SeatState) → SeatOk id terms sent S q g → g.restorable ≡ k.restorable → SeatOk id terms sent S q (record g { slots = slots })
      in_slots g s e = record {
        log = s.log;
        kept_log = s.kept_log;
        slots = subst (λ (r : Option SavedParts). SlotsOk id terms (party_of q) slots r) (sym e) ok;
        claim_old = s.claim_old;
        claim_new = s.claim_new;
        claim_legal = s.claim_legal;
        kept_legal = s.kept_legal;
        claims = s.claims;
      }

      other : (x : SeatProcess) → SeatProcessOk id terms sent S q k all.ever x → SeatProcessOk id terms sent S q (record { slots = slots; restorable = k.restorable }) all.ever x
      other x h = record {
        log = h.log;
        old = h.old;
        legal = h.legal;
        was_saved = h.was_saved;
        newest = λ e. in_slots (seat_as_seen k x) (h.newest e) refl;
      }

  abbrev saved_parts : SavedParts
  saved_parts = to_save_seat id terms q (seat_as_seen k f)

  next_claims : EverKept (ever_with all.ever f.claim) f.claim
  next_claims = ever_next all.ever (claim_in k.restorable) f.claim all.kept (order (cases_Bool f.claim_saved))
    where
      order : (f.claim_saved ≡ true) ⊎ (f.claim_saved ≡ false) → (f.claim ≡ claim_in k.restorable) ⊎ (claim_number (claim_in k.restorable) < claim_number f.claim)
      order (inl e) = inl ((mine.newest is).claim_old e)
      order (inr e) = inr ((mine.newest is).claim_new e)

  -- the save is restored
  own_restored : (slots : Slots) (after news : List SeatProcess) → SlotsOk id terms (party_of q) slots (Some saved_parts) → Becomes fs f after news
      → ((x : SeatProcess) → Contains after x → x ≡ record { log = f.log; claim = f.claim; claim_saved = true; last_save = next_number k.restorable })
      → Moved earlier id terms sent S q (record { slots = slots; restorable = Some saved_parts }) news
  own_restored slots after news ok b new = record {
    rest = seated;
    all = record {
      ever = ever_with all.ever f.claim;
      kept = next_claims;
      in_slots = λ n a e. with_new all.ever f.claim n a e;
      was_sent = was;
      each = each_becomes (SeatProcessOk id terms sent S q (record { slots = slots; restorable = Some saved_parts }) (ever_with all.ever f.claim)) fs f after news b
          (λ x c. other x (all.each x c))
          (λ x c. subst (SeatProcessOk id terms sent S q (record { slots = slots; restorable = Some saved_parts }) (ever_with all.ever f.claim)) (sym (new x c)) own);
      begun = λ found w. other (seat_from found) (all.begun found w);
    };
  }
    where
      was : (n : ℕ) (a : Action) → Claimed sent q n a → Contains (ever_with all.ever f.claim) (n, a)
      was n a c = with_old all.ever f.claim (n, a) (all.was_sent n a c)

      seated : SeatOk id terms sent S q (restored_seat slots (Some saved_parts) true)
      seated = record {
        log = mine.log;
        kept_log = mine.log;
        slots = ok;
        claim_old = λ e. refl;
        claim_new = λ e. cc;
        claim_legal = mine.legal;
        kept_legal = mine.legal;
        claims = claims_kept sent q (ever_with all.ever f.claim) f.claim next_claims was;
      }

      own : SeatProcessOk id terms sent S q (record { slots = slots; restorable = Some saved_parts }) (ever_with all.ever f.claim)
          (record { log = f.log; claim = f.claim; claim_saved = true; last_save = next_number k.restorable })
      own = record {
        log = mine.log;
        old = omega arith;
        legal = mine.legal;
        was_saved = λ e n a g. with_new all.ever f.claim n a g;
        newest = λ e. seated;
      }

      other : (x : SeatProcess) → SeatProcessOk id terms sent S q k all.ever x
          → SeatProcessOk id terms sent S q (record { slots = slots; restorable = Some saved_parts }) (ever_with all.ever f.claim) x
      other x h = record {
        log = h.log;
        old = let l = h.old in omega (l, arith);
        legal = h.legal;
        was_saved = λ e n a g. with_old all.ever f.claim (n, a) (h.was_saved e n a g);
        newest = λ e. let l = h.old in let g : x.last_save ≡ suc (save_in k.restorable) = e in absurd (omega (l, g, arith));
      }

  pub written : (number : ℕ) (slots : Slots) (restorable : Option SavedParts) (news : List SeatProcess) → number ≡ next_number k.restorable
      → SaveWritten saved_parts k.slots slots restorable
      → Becomes fs f (record { log = f.log; claim = f.claim; claim_saved = true; last_save = number } ∷ []) news
      → Moved earlier id terms sent S q (record { slots = slots; restorable = restorable }) news
  written number slots restorable news next h b =
      let w = after_whole id terms (party_of q) k.slots k.restorable saved_parts slots restorable base.slots (seat_by id terms q (seat_as_seen k f)) refl h in
      subst (λ (r : Option SavedParts). Moved earlier id terms sent S q (record { slots = slots; restorable = r }) news) (sym w.1)
      (own_restored slots (record { log = f.log; claim = f.claim; claim_saved = true; last_save = number } ∷ []) news
      (subst (λ (r : Option SavedParts). SlotsOk id terms (party_of q) slots r) w.1 w.0) b
      (of_one (λ (x : SeatProcess). x ≡ record { log = f.log; claim = f.claim; claim_saved = true; last_save = next_number k.restorable })
      (record { log = f.log; claim = f.claim; claim_saved = true; last_save = number })
      (ap (λ (i : ℕ). record { log = f.log; claim = f.claim; claim_saved = true; last_save = i }) next)))

  pub torn : (slots : Slots) (restorable : Option SavedParts) (news : List SeatProcess) → SaveTorn saved_parts k.slots slots restorable
      → Becomes fs f [] news → Moved earlier id terms sent S q (record { slots = slots; restorable = restorable }) news
  torn slots restorable news h b = of w.1
    where
      w : SlotsOk id terms (party_of q) slots restorable × ((restorable ≡ k.restorable) ⊎ (restorable ≡ Some saved_parts))
      w = after_torn id terms (party_of q) k.slots k.restorable saved_parts slots restorable base.slots (seat_by id terms q (seat_as_seen k f)) refl h

      of : (restorable ≡ k.restorable) ⊎ (restorable ≡ Some saved_parts) → Moved earlier id terms sent S q (record { slots = slots; restorable = restorable }) news
      of (inl e) =
          subst (λ (r : Option SavedParts). Moved earlier id terms sent S q (record { slots = slots; restorable = r }) news) (sym e)
          (same_restored slots news (subst (λ (r : Option SavedParts). SlotsOk id terms (party_of q) slots r) e w.0) b)
      of (inr e) =
          subst (λ (r : Option SavedParts). Moved earlier id terms sent S q (record { slots = slots; restorable = r }) news) (sym e)
          (own_restored slots [] news (subst (λ (r : Option SavedParts). SlotsOk id terms (party_of q) slots r) e w.0) b (λ x c. absurd (none_in x c)))

-- the seat at rest
pub rest_of : {earlier : Earlier} (m : SharedMatch) (q : Player) → FencedInv earlier m → SeatOk m.id m.terms m.sent (ready m) q (restored_seat (stored_of m q).slots (stored_of m q).restorable true)
rest_of {earlier} m X inv = inv.base.x
rest_of {earlier} m O inv = inv.base.o

move_seats : {earlier : Earlier} (m : SharedMatch) (q : Player) (k : Stored) (fs : List SeatProcess) → FencedInv earlier m → Moved earlier m.id m.terms m.sent (ready m) q k fs → FencedInv earlier (with_stored (with_seats m q fs) q k)
move_seats {earlier} m X k fs inv new = record { base = seat_steps (at_rest m) X (restored_seat k.slots k.restorable true) inv.base new.rest; referees = inv.referees; begun = inv.begun; seats = seats; watching = inv.watching }
  where
    seats : (q : Player) → SeatsOk earlier m.id m.terms m.sent (ready m) q (stored_of (record m { xs = fs; x = k }) q) (seats_of (record m { xs = fs; x = k }) q)
    seats X = new.all
    seats O = inv.seats O
move_seats {earlier} m O k fs inv new = record { base = seat_steps (at_rest m) O (restored_seat k.slots k.restorable true) inv.base new.rest; referees = inv.referees; begun = inv.begun; seats = seats; watching = inv.watching }
  where
    seats : (q : Player) → SeatsOk earlier m.id m.terms m.sent (ready m) q (stored_of (record m { os = fs; o = k }) q) (seats_of (record m { os = fs; o = k }) q)
    seats X = inv.seats X
    seats O = new.all

of_state : {earlier : Earlier} (m : SharedMatch) (q : Player) (new old : SeatState) (fs : List SeatProcess) → new ≡ old
    → FencedInv earlier (with_stored (with_seats m q fs) q (record { slots = old.slots; restorable = old.restorable }))
    → FencedInv earlier (with_stored (with_seats m q fs) q (record { slots = new.slots; restorable = new.restorable }))
of_state {earlier} m q new old fs e h = subst (λ (x : SeatState). FencedInv earlier (with_stored (with_seats m q fs) q (record { slots = x.slots; restorable = x.restorable }))) (sym e) h

pub saves : {earlier : Earlier} (m : SharedMatch) (q : Player) (f : SeatProcess) (o : Outcome) (n : SharedMatch) → FencedInv earlier m → SeatSaves m q f o n → FencedInv earlier n
saves {earlier} m q f (outcomes.Saved number) n inv h =
    let s = (h.3).1 in
    let core = seat_as_seen (stored_of m q) f in
    let new = record core { claim_saved = true; slots = s.0; restorable = s.1 } in
    let b : Becomes (seats_of m q) f (record { log = f.log; claim = f.claim; claim_saved = true; last_save = number } ∷ []) h.1 =
    subst (λ (x : SeatState). Becomes (seats_of m q) f (seat_process x number ∷ []) h.1) s.3 h.4 in
    let ok = (inv.seats q).each f (was_in (seats_of m q) f (seat_process h.0 number ∷ []) h.1 h.4) in
    subst (FencedInv earlier) (sym h.5)
    (of_state m q h.0 new h.1 s.3
    (move_seats m q (record { slots = s.0; restorable = s.1 }) h.1 inv
    (written m.id m.terms m.sent (ready m) q (stored_of m q) (seats_of m q) f (rest_of m q inv) (inv.seats q) ok h.2 number s.0 s.1 h.1 (h.3).0 s.2 b)))
saves {earlier} m q f outcomes.SaveFault n inv h = at_place h.2
  where
    ok : SeatProcessOk m.id m.terms m.sent (ready m) q (stored_of m q) (ever_of m inv q) f
    ok = (inv.seats q).each f (was_in (seats_of m q) f [] h.0 h.1)

    at_place : (n ≡ with_seats m q h.0)
        ⊎ ((new : SeatState) × IsNewest (stored_of m q).restorable f.last_save × SeatSaveStep m.id m.terms q outcomes.SaveFault (seat_as_seen (stored_of m q) f) new
        × (n ≡ with_stored (with_seats m q h.0) q (record { slots = new.slots; restorable = new.restorable }))) → FencedInv earlier n
    at_place (inl e) =
        subst (FencedInv earlier) (sym e)
        (change_seats m q h.0 inv (seats_become m.id m.terms m.sent (ready m) q (stored_of m q) (seats_of m q) f [] h.0 (inv.seats q) h.1 (λ x c. absurd (none_in x c))))
    at_place (inr g) =
        let s = g.2 in
        subst (FencedInv earlier) (sym g.3)
        (of_state m q g.0 (restored_seat s.0 s.1 false) h.0 s.3
        (move_seats m q (record { slots = s.0; restorable = s.1 }) h.0 inv
        (torn m.id m.terms m.sent (ready m) q (stored_of m q) (seats_of m q) f (rest_of m q inv) (inv.seats q) ok g.1 s.0 s.1 h.0 s.2 h.1)))
saves {earlier} m q f outcomes.SavesSpent n inv h = subst (FencedInv earlier) (sym h) inv
saves {earlier} m q f outcomes.Memory n inv h = subst (FencedInv earlier) (sym h) inv
saves {earlier} m q f _ n inv h = absurd h
