-- Each row of the protocol keeps the invariant.
use Rattle.std.specs.Prelude.{◌≡◌, ℕ, suc, ◌≤◌, ◌+◌, Bool, true, false, Option, Some, None, List, [], ◌∷◌, ◌++◌, ◌⊎◌, Ok, Err, length, take, slice_get, MatchOption, nat_lt, if◌then◌else◌}
use Rattle.std.proofs.Common.{refl, sym, ◌∙◌, ap, subst, inl, inr, arith, length-append}
use Rattle.std.proofs.lemmas.List.{take-append-le, take_all, length-take}
use Rattle.std.proofs.lemmas.Option.{slice_get_within}
use Rattle.std.proofs.lemmas.List.Elements.{All-weaker, All-cons, All-nil}
use Rattle.std.proofs.lemmas.Bool.{cases_Bool}
use Rattle.bg_match.specs.Terms.{rules_of}
use Rattle.bg_board.specs.declared.players.Player.{Player}
use Rattle.bg_board.specs.declared.players.Player.TheVariants.{X, O}
use Rattle.bg_turns.specs.Dice.{dice_of}
use Rattle.bg_match.specs.declared.actions.Action.{Action}
use Rattle.bg_match.specs.declared.entries.Entry.{Entry}
use Rattle.bg_match.specs.declared.phases.Actor.{Actor}
use Rattle.bg_match.specs.declared.phases.Actor.TheVariants.{Referee, Seat}
use Rattle.bg_match.specs.Answers.{IsAnswer}
use Rattle.bg_match.specs.Match.{IsLegalRecord, ActsAfter, at_number}
use Rattle.bg_match.proofs.Legal.{legal_fronts, one_actor}
use Rattle.bg_match.proofs.Answering.{is_answer}
use Rattle.bg_wire.specs.Parties.{party_of}
use Rattle.bg_wire.specs.Saved.SavedText.{SavedParts}
use Rattle.bg_wire.specs.declared.packets.Datagram.{Datagram}
use Rattle.bg_wire.specs.declared.packets.Packet.{Packet}
use Rattle.bg_wire.specs.declared.packets.Packet.TheVariants as packet
use Rattle.bg_referee.specs.Claims.{IsAccepted}
use Rattle.bg_referee.specs.Dues.{IsDue}
use Rattle.bg_referee.proofs.DueEntries.{due_acts, due_next}
use Rattle.bg_wire.specs.Saved.SlotLaws.{Slots}
use Rattle.bg_protocol.specs.Promises.Agreement.{IsPrefix}
use Rattle.bg_protocol.specs.Promises.Claims.{AreClaimsKept}
use Rattle.bg_protocol.specs.Protocol.Datagrams.{Carries, WasSent, Claimed}
use Rattle.bg_protocol.specs.Protocol.DueStep.{with_entry, DueStep}
use Rattle.bg_protocol.specs.Protocol.FollowerTakeStep.{FollowerTakeStep, GrowsAsShown, LearnStep}
use Rattle.bg_protocol.specs.Protocol.Frames.{IfUp, SeatChanges, SendsAtMost, NoParty}
use Rattle.bg_protocol.specs.Protocol.RefereeTakeStep.{IsOfSaved, ShowsSaved, ReplyStep, RefereeTakeStep}
use Rattle.bg_protocol.specs.Promises.Refusals.{IsSound}
use Rattle.bg_protocol.specs.Protocol.RestartStep.{RestartsTo, RestartStep}
use Rattle.bg_protocol.specs.Protocol.Roles.{role}
use Rattle.bg_protocol.specs.Protocol.SaveStep.{to_save_referee, to_save_seat, RefereeSaveStep, SeatSaveStep, SaveStep}
use Rattle.bg_protocol.specs.Protocol.Slots.{entries_in, claim_in, SaveWritten, SaveTorn}
use Rattle.bg_protocol.specs.Protocol.State.{ProtocolState, SeatState, seat_in, saved_log, Exists, restored_referee, restored_seat}
use Rattle.bg_protocol.specs.Protocol.Step.{Step}
use Rattle.bg_protocol.specs.Protocol.TickStep.{SendsOnTick, want_packet, seat_packet, TickStep}
use Rattle.bg_referee.specs.declared.outcomes.TakeOutcome.{TakeOutcome}
use Rattle.bg_referee.specs.declared.outcomes.TakeOutcome.TheVariants as takes
use Rattle.bg_party.specs.Claims.{CanClaim, claim_number}
use Rattle.bg_party.specs.declared.outcomes.Learned.{Learned}
use Rattle.bg_party.specs.declared.outcomes.Learned.TheVariants as learns
use Rattle.bg_wire.specs.Saved.Restoring.{IsSavedBy}
use Rattle.bg_protocol.specs.declared.events.Event.{Event}
use Rattle.bg_protocol.specs.declared.events.Event.TheVariants as events
use Rattle.bg_protocol.specs.declared.events.Outcome.{Outcome}
use Rattle.bg_protocol.specs.declared.events.Outcome.TheVariants as outcomes
use Rattle.bg_protocol.specs.declared.roles.Role.{Role}
use Rattle.bg_protocol.specs.declared.roles.Role.TheVariants.{Referee as AsReferee, Seat as AsSeat, Watcher as AsWatcher}
use Rattle.bg_protocol.proofs.Protocol.Lists.{prefix_same, prefix_none, prefix_take, prefix_length, prefix_whole, prefix_get, prefix_before, prefix_more, get_push}
use Rattle.bg_protocol.proofs.Protocol.Saving.{SlotsOk, after_whole, after_torn}
use Rattle.bg_protocol.proofs.Protocol.Invariant.{IsKeptClaim, Inv, SeatOk, RefereeOk, LegalClaim, MaySend, of_seat, referee_steps, seat_steps, watcher_steps, sends}
use Rattle.bg_protocol.specs.Protocol.ChooseStep.{ChooseStep}
use Rattle.bg_protocol.specs.Protocol.TakeStep.{TakeStep}

stays : (w v : ProtocolState) → Inv w → v ≡ w → Inv v
stays w v inv h = subst Inv (sym h) inv

if_up : (b : Bool) (w : ProtocolState) (o : Outcome) (v : ProtocolState) (P : Type 0) → Inv w → (P → Inv v) → IfUp b w o v P → Inv v
if_up true w o v P inv f h = f h
if_up false w o v P inv f h = stays w v inv h.1

-- A seat's row keeps the seat in order, and so the invariant.
pub SeatKeeps : ProtocolState → Player → SeatState → Type 0
SeatKeeps w q f = SeatOk w.id w.terms w.sent (saved_log w) q f

of_seat_row : (w : ProtocolState) (q : Player) (v : ProtocolState) (P : SeatState → Type 0) → Inv w → ((new : SeatState) → P new → SeatKeeps w q new) → SeatChanges w q v P → Inv v
unfolding SeatKeeps
of_seat_row w q v P inv f h = subst Inv (sym h.2) (seat_steps w q h.0 inv (f h.0 h.1))

same_keeps : (w : ProtocolState) (q : Player) (new : SeatState) → Inv w → new ≡ seat_in w q → SeatKeeps w q new
unfolding SeatKeeps
same_keeps w q new inv e = subst (λ (f : SeatState). SeatOk w.id w.terms w.sent (saved_log w) q f) (sym e) (of_seat w q inv)

when_up : (b : Bool) (w : ProtocolState) (q : Player) (o : Outcome) (new : SeatState) (P : Type 0) → Inv w → (P → SeatKeeps w q new) → IfUp b (seat_in w q) o new P → SeatKeeps w q new
when_up true w q o new P inv f h = f h
when_up false w q o new P inv f h = same_keeps w q new inv h.1

-- ---- the referee's record grows by one

pushes : (w : ProtocolState) (e : Entry) → Inv w → IsLegalRecord w.terms (w.referee.log ++ e ∷ []) → ((q : Player) → ActsAfter w.terms w.referee.log (Seat q) → (a : Action) × Claimed w.sent q (suc (length w.referee.log)) a × IsAnswer a e) → Inv (with_entry w e)
pushes w e inv legal by_seat = referee_steps w (record (w.referee) { log = w.referee.log ++ e ∷ [] }) inv ok (subst (λ (l : List Entry). IsPrefix (saved_log w) l) (sym front) (prefix_same (saved_log w)))
  where
    front : take w.referee.saved (w.referee.log ++ e ∷ []) ≡ take w.referee.saved w.referee.log
    front = take-append-le w.referee.saved w.referee.log (e ∷ []) inv.referee.within

    at_place : (i : ℕ) (f : Entry) (q : Player) → ((slice_get w.referee.log i ≡ Some f) × (take i (w.referee.log ++ e ∷ []) ≡ take i w.referee.log)) ⊎ ((i ≡ length w.referee.log) × (f ≡ e) × (take i (w.referee.log ++ e ∷ []) ≡ w.referee.log)) → ActsAfter w.terms (take i (w.referee.log ++ e ∷ [])) (Seat q) → (a : Action) × Claimed w.sent q (suc i) a × IsAnswer a f
    at_place i f q (inl p) g = inv.referee.answered i f q p.0 (subst (λ (l : List Entry). ActsAfter w.terms l (Seat q)) p.1 g)
    at_place i f q (inr p) g =
        let c = by_seat q (subst (λ (l : List Entry). ActsAfter w.terms l (Seat q)) p.2 g) in
        (c.0, subst (λ (n : ℕ). Claimed w.sent q (suc n) c.0) (sym p.0) c.1, subst (λ (x : Entry). IsAnswer c.0 x) (sym p.1) c.2)

    ok : RefereeOk w.id w.terms w.sent (record (w.referee) { log = w.referee.log ++ e ∷ [] })
    ok = record {
      legal = legal;
      within = let h = inv.referee.within in omega (h, length-append w.referee.log (e ∷ []), arith);
      restorable = inv.referee.restorable ∙ sym front;
      slots = inv.referee.slots;
      answered = λ i f q h g. at_place i f q (get_push w.referee.log e i f h) g;
    }

opens : (w : ProtocolState) (word : ℕ) (e : Entry) → Inv w → IsDue w.terms w.referee.log word e → Inv (with_entry w e)
opens w word e inv h = pushes w e inv (due_next w.terms w.referee.log word e h) (λ q g. absurd (clash q (one_actor w.terms w.referee.log Referee (Seat q) referee g)))
  where
    referee : ActsAfter w.terms w.referee.log Referee
    referee = due_acts w.terms w.referee.log word e h

    clash : (q : Player) → ◌≡◌ {A = Actor} Referee (Seat q) → ⊥
    clash q e = cc

same_seat : (p q : Player) → ◌≡◌ {A = Actor} (Seat p) (Seat q) → p ≡ q
same_seat p q h = cc

accepts : (w : ProtocolState) (word : ℕ) (p : Packet) (e : Entry) → Inv w → WasSent w.sent 0 p → IsAccepted w.id w.terms w.referee.log word p e → Inv (with_entry w e)
accepts w word (packet.Want id rules sender held) e inv came h = absurd h
accepts w word (packet.Entries id rules start list) e inv came h = absurd h
accepts w word (packet.Claim id rules sender n a) e inv came h = pushes w e inv h.4 by_seat
  where
    by_seat : (q : Player) → ActsAfter w.terms w.referee.log (Seat q) → (b : Action) × Claimed w.sent q (suc (length w.referee.log)) b × IsAnswer b e
    by_seat q g =
        let same : h.2.0 ≡ q = same_seat h.2.0 q (one_actor w.terms w.referee.log (Seat h.2.0) (Seat q) h.2.1 g) in
        let c : WasSent w.sent 0 (packet.Claim id rules (party_of q) n a) = subst (λ (s : ℕ). WasSent w.sent 0 (packet.Claim id rules s n a)) (h.2.2 ∙ ap party_of same) came in
        let number : n ≡ suc (length w.referee.log) = numbered n (length w.referee.log) h.1 in
        let d : WasSent w.sent 0 (packet.Claim id rules (party_of q) (suc (length w.referee.log)) a) = subst (λ (m : ℕ). WasSent w.sent 0 (packet.Claim id rules (party_of q) m a)) number c in
        (a, (0, id, rules, d), is_answer a (dice_of word) e h.3)
      where
        numbered : (m l : ℕ) → m ≡ l + 1 → m ≡ suc l
        numbered m l e = omega (e, arith)

-- ---- sending

of_saved_may : (w : ProtocolState) (d : Datagram) → ShowsSaved w d → MaySend w d
of_saved_may w d h = let s = sound h.0 h.2 in (h.0, h.1.1, s.0, s.1)
  where
    sound : (p : Packet) → IsOfSaved w p → IsSound w p × IsKeptClaim w p
    sound (packet.Entries id rules start list) k = (k, tt)
    sound (packet.Want id rules sender held) k = absurd k
    sound (packet.Claim id rules sender n a) k = absurd k

sends_some : (w v : ProtocolState) (may : Datagram → Type 0) (most : ℕ) → Inv w → ((d : Datagram) → may d → MaySend w d) → SendsAtMost may most w v → Inv v
sends_some w v may most inv f h = subst Inv (sym h.after) (sends w h.out inv (All-weaker may (MaySend w) f h.out h.each))

ticks : (w : ProtocolState) (o : Outcome) (v : ProtocolState) (may : Datagram → Type 0) (most : ℕ) → Inv w → ((d : Datagram) → may d → MaySend w d) → SendsOnTick may most w o v → Inv v
ticks w (outcomes.Sent n) v may most inv f h = sends_some w v may most inv f h.0
ticks w outcomes.LinkFault v may most inv f h = sends_some w v may most inv f h
ticks w outcomes.Memory v may most inv f h = sends_some w v may most inv f h
ticks w _ v may most inv f h = absurd h

pub same_number : (p q : Player) → party_of p ≡ party_of q → p ≡ q
same_number X X h = refl
same_number O O h = refl
same_number X O h = absurd (omega (h, arith))
same_number O X h = absurd (omega (h, arith))

within_saved : (w : ProtocolState) (log : List Entry) → IsPrefix log (saved_log w) → length log ≤ w.referee.saved
within_saved w log p = let k = prefix_length log (saved_log w) p in omega (k, length-take w.referee.saved w.referee.log, arith)

seat_exists : (w : ProtocolState) (q : Player) → Exists w (party_of q)
seat_exists w X = omega arith
seat_exists w O = omega arith

want_may : (w : ProtocolState) (d : Datagram) (party : ℕ) (log : List Entry) → Exists w party → IsPrefix log (saved_log w) → Carries d 0 (want_packet w.id w.terms party log) → MaySend w d
want_may w d party log there p c = (want_packet w.id w.terms party log, c.1, ((refl, refl), there, within_saved w log p), tt)

seat_may : (w : ProtocolState) (q : Player) (d : Datagram) (claim : Option (ℕ × Action)) (is_saved : Bool) → Inv w → LegalClaim w.terms (saved_log w) q claim → (is_saved ≡ true → claim ≡ claim_in (seat_in w q).restorable)
    → Carries d 0 (seat_packet w.id w.terms (party_of q) (seat_in w q).log claim is_saved) → MaySend w d
seat_may w q d claim is_saved inv legal h c = at_claim claim is_saved legal h c
  where
    want : Carries d 0 (want_packet w.id w.terms (party_of q) (seat_in w q).log) → MaySend w d
    want k = want_may w d (party_of q) (seat_in w q).log (seat_exists w q) (of_seat w q inv).log k

    at_test : (m : ℕ × Action) (b : Bool) → LegalClaim w.terms (saved_log w) q (Some m) → Some m ≡ claim_in (seat_in w q).restorable
        → Carries d 0 (if b then packet.Claim w.id (rules_of w.terms) (party_of q) m.0 m.1 else want_packet w.id w.terms (party_of q) (seat_in w q).log) → MaySend w d
    at_test m true k e g = (packet.Claim w.id (rules_of w.terms) (party_of q) m.0 m.1, g.1, ((refl, refl), (q, refl, k)), λ p f. subst (λ (r : Player). claim_in (seat_in w r).restorable ≡ Some (m.0, m.1)) (same_number q p f) (sym e))
    at_test m false k e g = want g

    at_claim : (m : Option (ℕ × Action)) (b : Bool) → LegalClaim w.terms (saved_log w) q m → (b ≡ true → m ≡ claim_in (seat_in w q).restorable)
        → Carries d 0 (seat_packet w.id w.terms (party_of q) (seat_in w q).log m b) → MaySend w d
    at_claim None b k e g = want g
    at_claim (Some m) false k e g = want g
    at_claim (Some m) true k e g = at_test m (nat_lt (length (seat_in w q).log) m.0) k (e refl) g

-- ---- taking

took : (w : ProtocolState) (word : ℕ) (p : Packet) (t : TakeOutcome) (v : ProtocolState) → Inv w → WasSent w.sent 0 p → ReplyStep w word p t v → Inv v
took w word p (takes.Accepted n) v inv came h = subst Inv (sym h.2) (accepts w word p h.0 inv came h.1)
took w word p (takes.Answer to answer) v inv came h =
    let d = h.2.0 in
    let c = h.2.1 in
    subst Inv (sym h.2.2) (sends w (d ∷ []) inv (All-cons (MaySend w) d [] (of_saved_may w d (answer, (refl, c.1), h.1)) (All-nil (MaySend w))))
took w word p takes.Memory v inv came h = stays w v inv h
took w word p _ v inv came h = stays w v inv h.1

take_at_referee : (w : ProtocolState) (word : ℕ) (o : Outcome) (v : ProtocolState) → Inv w → RefereeTakeStep w word o v → Inv v
take_at_referee w word (outcomes.Took t) v inv h = took w word h.0 t v inv h.1 h.2
take_at_referee w word outcomes.NoDatagram v inv h = stays w v inv h
take_at_referee w word (outcomes.NotAPacket why) v inv h = stays w v inv h
take_at_referee w word outcomes.LinkFault v inv h = sends_some w v (ShowsSaved w) 1 inv (of_saved_may w) h
take_at_referee w word outcomes.Memory v inv h = sends_some w v (ShowsSaved w) 1 inv (of_saved_may w) h
take_at_referee w word _ v inv h = absurd h

-- what comes to a follower's record stands in what the referee has saved
pub grows : (w : ProtocolState) (party : ℕ) (old new : List Entry) → Inv w → IsPrefix old (saved_log w) → GrowsAsShown w.id w.terms w.sent party old new → IsPrefix new (saved_log w)
grows w party old new inv p h = subst (λ (l : List Entry). IsPrefix l (saved_log w)) (sym h.is) (prefix_more old h.more (saved_log w) p stood)
  where
    stood : (i n : ℕ) (e : Entry) → n ≡ length old + i → slice_get h.more i ≡ Some e → slice_get (saved_log w) n ≡ Some e
    stood i n e m g =
        let s = h.shown i e g in
        let k : at_number (saved_log w) (s.start + s.place) ≡ Some e = (inv.datagrams party (packet.Entries w.id (rules_of w.terms) s.start s.list) s.came).1 s.place e s.stands in
        let j : s.start + s.place ≡ suc n = omega (s.number, m, arith) in
        subst (λ (x : ℕ). at_number (saved_log w) x ≡ Some e) j k

pub learns_keep : (w : ProtocolState) (party : ℕ) (p : Packet) (l : Learned) (old new : List Entry) → Inv w → IsPrefix old (saved_log w) → LearnStep w.id w.terms w.sent party p l old new → IsPrefix new (saved_log w)
learns_keep w party p (learns.Grew k) old new inv q h = grows w party old new inv q h.2
learns_keep w party p learns.Memory old new inv q h = subst (λ (l : List Entry). IsPrefix l (saved_log w)) (sym h) q
learns_keep w party p _ old new inv q h = subst (λ (l : List Entry). IsPrefix l (saved_log w)) (sym h.1) q

pub take_at_follower : (w : ProtocolState) (party : ℕ) (o : Outcome) (old new : List Entry) → Inv w → IsPrefix old (saved_log w) → FollowerTakeStep w.id w.terms w.sent party o old new → IsPrefix new (saved_log w)
take_at_follower w party (outcomes.Learned l) old new inv p h = learns_keep w party h.0 l old new inv p h.2
take_at_follower w party outcomes.NoDatagram old new inv p h = subst (λ (l : List Entry). IsPrefix l (saved_log w)) (sym h) p
take_at_follower w party (outcomes.NotAPacket why) old new inv p h = subst (λ (l : List Entry). IsPrefix l (saved_log w)) (sym h) p
take_at_follower w party outcomes.LinkFault old new inv p h = subst (λ (l : List Entry). IsPrefix l (saved_log w)) (sym h) p
take_at_follower w party outcomes.Memory old new inv p h = subst (λ (l : List Entry). IsPrefix l (saved_log w)) (sym h) p
take_at_follower w party _ old new inv p h = absurd h

seat_learns : (w : ProtocolState) (q : Player) (new : List Entry) → Inv w → IsPrefix new (saved_log w) → SeatKeeps w q (record (seat_in w q) { log = new })
unfolding SeatKeeps
seat_learns w q new inv p =
    let s = of_seat w q inv in
    record { log = p; kept_log = s.kept_log; slots = s.slots; claim_old = s.claim_old; claim_new = s.claim_new; claim_legal = s.claim_legal; kept_legal = s.kept_legal; claims = s.claims }

-- ---- choosing

pub below_claim : (w : ProtocolState) (q : Player) → Inv w → claim_number (claim_in (seat_in w q).restorable) ≤ claim_number (seat_in w q).claim
below_claim w q inv = at_saved (cases_Bool (seat_in w q).claim_saved)
  where
    at_saved : ((seat_in w q).claim_saved ≡ true) ⊎ ((seat_in w q).claim_saved ≡ false) → claim_number (claim_in (seat_in w q).restorable) ≤ claim_number (seat_in w q).claim
    at_saved (inl h) = let k : claim_number (seat_in w q).claim ≡ claim_number (claim_in (seat_in w q).restorable) = ap claim_number ((of_seat w q inv).claim_old h) in omega (k, arith)
    at_saved (inr h) = let k = (of_seat w q inv).claim_new h in omega (k, arith)

pub chooses : (w : ProtocolState) (q : Player) (a : Action) → Inv w → CanClaim w.terms q (seat_in w q).log (seat_in w q).claim a → SeatKeeps w q (record (seat_in w q) { claim = Some (length (seat_in w q).log + 1, a); claim_saved = false })
unfolding SeatKeeps
chooses w q a inv h =
    let s = of_seat w q inv in
    let k = below_claim w q inv in
    let free = h.1 in
    let front = prefix_whole (seat_in w q).log (saved_log w) s.log in
    record {
      log = s.log;
      kept_log = s.kept_log;
      slots = s.slots;
      claim_old = λ e. cc;
      claim_new = λ e. omega (k, free, arith);
      claim_legal = record {
        before = length (seat_in w q).log;
        number = refl;
        within = prefix_length (seat_in w q).log (saved_log w) s.log;
        acts = subst (λ (l : List Entry). ActsAfter w.terms l (Seat q)) (sym front) h.0;
        entry = h.2.0;
        of_action = h.2.1;
        legal = subst (λ (l : List Entry). IsLegalRecord w.terms (l ++ h.2.0 ∷ [])) (sym front) h.2.2;
      };
      kept_legal = s.kept_legal;
      claims = s.claims;
    }

-- ---- saving and restoring

-- the referee with what its slots restore, where that is no less than what was saved and no more
-- than its record
restores_referee : (w : ProtocolState) (slots : Slots) (restorable : Option SavedParts) (up : Bool) → Inv w → SlotsOk w.id w.terms 0 slots restorable → IsPrefix (saved_log w) (entries_in restorable) → IsPrefix (entries_in restorable) w.referee.log → Inv (record w { referee = restored_referee slots restorable up })
restores_referee w slots restorable up inv ok p q = referee_steps w (restored_referee slots restorable up) inv good (subst (λ (l : List Entry). IsPrefix (saved_log w) l) (sym all) p)
  where
    all : take (length (entries_in restorable)) (entries_in restorable) ≡ entries_in restorable
    all = take_all (length (entries_in restorable)) (entries_in restorable) (omega arith)

    good : RefereeOk w.id w.terms w.sent (restored_referee slots restorable up)
    good = record {
      legal = legal_fronts w.terms (entries_in restorable) q.0 (subst (IsLegalRecord w.terms) (sym q.1) inv.referee.legal);
      within = omega arith;
      restorable = sym all;
      slots = ok;
      answered = λ i e s h g. inv.referee.answered i e s (prefix_get (entries_in restorable) w.referee.log i e q h) (subst (λ (l : List Entry). ActsAfter w.terms l (Seat s)) (prefix_before (entries_in restorable) w.referee.log i e q h) g);
    }

pub referee_of : (w : ProtocolState) → IsSavedBy 0 w.id w.terms (to_save_referee w)
referee_of w = record { party = refl; id = refl; terms = refl }

pub seat_of : (w : ProtocolState) (q : Player) → IsSavedBy (party_of q) w.id w.terms (to_save_seat w.id w.terms q (seat_in w q))
seat_of w q = record { party = refl; id = refl; terms = refl }

saves_referee : (w : ProtocolState) (slots : Slots) (restorable : Option SavedParts) → Inv w → SaveWritten (to_save_referee w) w.referee.slots slots restorable → Inv (record w { referee = record (w.referee) { saved = length w.referee.log; slots = slots; restorable = restorable } })
saves_referee w slots restorable inv h =
    referee_steps w (record (w.referee) { saved = length w.referee.log; slots = slots; restorable = restorable }) inv
    (record {
      legal = inv.referee.legal;
      within = omega arith;
      restorable = ap entries_in new.1 ∙ sym all;
      slots = new.0;
      answered = inv.referee.answered;
    })
    (subst (λ (l : List Entry). IsPrefix (saved_log w) l) (sym all) (prefix_take w.referee.saved w.referee.log))
  where
    new : SlotsOk w.id w.terms 0 slots restorable × (restorable ≡ Some (to_save_referee w))
    new = after_whole w.id w.terms 0 w.referee.slots w.referee.restorable (to_save_referee w) slots restorable inv.referee.slots (referee_of w) refl h

    all : take (length w.referee.log) w.referee.log ≡ w.referee.log
    all = take_all (length w.referee.log) w.referee.log (omega arith)

tears_referee : (w : ProtocolState) (slots : Slots) (restorable : Option SavedParts) → Inv w → SaveTorn (to_save_referee w) w.referee.slots slots restorable → Inv (record w { referee = restored_referee slots restorable false })
tears_referee w slots restorable inv h =
    let new = after_torn w.id w.terms 0 w.referee.slots w.referee.restorable (to_save_referee w) slots restorable inv.referee.slots (referee_of w) refl h in
    restores_referee w slots restorable false inv new.0 (low new.1) (above new.1)
  where
    low : (restorable ≡ w.referee.restorable) ⊎ (restorable ≡ Some (to_save_referee w)) → IsPrefix (saved_log w) (entries_in restorable)
    low (inl e) = subst (λ (l : List Entry). IsPrefix (saved_log w) l) (sym (ap entries_in e ∙ inv.referee.restorable)) (prefix_same (saved_log w))
    low (inr e) = subst (λ (l : List Entry). IsPrefix (saved_log w) l) (sym (ap entries_in e)) (prefix_take w.referee.saved w.referee.log)

    above : (restorable ≡ w.referee.restorable) ⊎ (restorable ≡ Some (to_save_referee w)) → IsPrefix (entries_in restorable) w.referee.log
    above (inl e) = subst (λ (l : List Entry). IsPrefix l w.referee.log) (sym (ap entries_in e ∙ inv.referee.restorable)) (prefix_take w.referee.saved w.referee.log)
    above (inr e) = subst (λ (l : List Entry). IsPrefix l w.referee.log) (sym (ap entries_in e)) (prefix_same w.referee.log)

save_at_referee : (w : ProtocolState) (o : Outcome) (v : ProtocolState) → Inv w → RefereeSaveStep w o v → Inv v
save_at_referee w (outcomes.Saved k) v inv h = subst Inv (sym h.1.3) (saves_referee w h.1.0 h.1.1 inv h.1.2)
save_at_referee w outcomes.SaveFault v inv h = subst Inv (sym h.3) (tears_referee w h.0 h.1 inv h.2)
save_at_referee w outcomes.SavesSpent v inv h = stays w v inv h
save_at_referee w outcomes.Memory v inv h = stays w v inv h
save_at_referee w _ v inv h = absurd h

-- The claims that were sent are restorable by a save of a seat: its claim is the restorable one, or
-- has a greater number.
claims_kept : (w : ProtocolState) (q : Player) → Inv w → AreClaimsKept w.sent q (seat_in w q).claim
claims_kept w q inv = at_saved (cases_Bool (seat_in w q).claim_saved)
  where
    at_saved : ((seat_in w q).claim_saved ≡ true) ⊎ ((seat_in w q).claim_saved ≡ false) → AreClaimsKept w.sent q (seat_in w q).claim
    at_saved (inl h) = subst (AreClaimsKept w.sent q) (sym ((of_seat w q inv).claim_old h)) (of_seat w q inv).claims
    at_saved (inr h) =
        let s = of_seat w q inv in
        let less = s.claim_new h in
        record {
          up_to = λ n a c. let k = s.claims.up_to n a c in omega (k, less, arith);
          same = λ n a c e. let k = s.claims.up_to n a c in absurd (omega (k, e, less, arith));
          one = s.claims.one;
        }

saves_seat : (w : ProtocolState) (q : Player) (slots : Slots) (restorable : Option SavedParts) → Inv w → SaveWritten (to_save_seat w.id w.terms q (seat_in w q)) (seat_in w q).slots slots restorable → SeatKeeps w q (record (seat_in w q) { claim_saved = true; slots = slots; restorable = restorable })
unfolding SeatKeeps
saves_seat w q slots restorable inv h =
    let s = of_seat w q inv in
    let new = after_whole w.id w.terms (party_of q) (seat_in w q).slots (seat_in w q).restorable (to_save_seat w.id w.terms q (seat_in w q)) slots restorable s.slots (seat_of w q) refl h in
    record {
      log = s.log;
      kept_log = subst (λ (l : List Entry). IsPrefix l (saved_log w)) (sym (ap entries_in new.1)) s.log;
      slots = new.0;
      claim_old = λ e. sym (ap claim_in new.1);
      claim_new = λ e. cc;
      claim_legal = s.claim_legal;
      kept_legal = subst (LegalClaim w.terms (saved_log w) q) (sym (ap claim_in new.1)) s.claim_legal;
      claims = subst (AreClaimsKept w.sent q) (sym (ap claim_in new.1)) (claims_kept w q inv);
    }

-- a seat with what its slots restore, which it held or had saved
restores_seat : (w : ProtocolState) (q : Player) (slots : Slots) (restorable : Option SavedParts) (up : Bool) → Inv w → SlotsOk w.id w.terms (party_of q) slots restorable → IsPrefix (entries_in restorable) (saved_log w) → LegalClaim w.terms (saved_log w) q (claim_in restorable) → AreClaimsKept w.sent q (claim_in restorable) → SeatKeeps w q (restored_seat slots restorable up)
unfolding SeatKeeps
restores_seat w q slots restorable up inv ok p l c =
    record {
      log = p;
      kept_log = p;
      slots = ok;
      claim_old = λ e. refl;
      claim_new = λ e. cc;
      claim_legal = l;
      kept_legal = l;
      claims = c;
    }

tears_seat : (w : ProtocolState) (q : Player) (slots : Slots) (restorable : Option SavedParts) → Inv w → SaveTorn (to_save_seat w.id w.terms q (seat_in w q)) (seat_in w q).slots slots restorable → SeatKeeps w q (restored_seat slots restorable false)
tears_seat w q slots restorable inv h =
    let new = after_torn w.id w.terms (party_of q) (seat_in w q).slots (seat_in w q).restorable (to_save_seat w.id w.terms q (seat_in w q)) slots restorable (of_seat w q inv).slots (seat_of w q) refl h in
    restores_seat w q slots restorable false inv new.0 (log new.1) (legal new.1) (claims new.1)
  where
    log : (restorable ≡ (seat_in w q).restorable) ⊎ (restorable ≡ Some (to_save_seat w.id w.terms q (seat_in w q))) → IsPrefix (entries_in restorable) (saved_log w)
    log (inl e) = subst (λ (l : List Entry). IsPrefix l (saved_log w)) (sym (ap entries_in e)) (of_seat w q inv).kept_log
    log (inr e) = subst (λ (l : List Entry). IsPrefix l (saved_log w)) (sym (ap entries_in e)) (of_seat w q inv).log

    legal : (restorable ≡ (seat_in w q).restorable) ⊎ (restorable ≡ Some (to_save_seat w.id w.terms q (seat_in w q))) → LegalClaim w.terms (saved_log w) q (claim_in restorable)
    legal (inl e) = subst (LegalClaim w.terms (saved_log w) q) (sym (ap claim_in e)) (of_seat w q inv).kept_legal
    legal (inr e) = subst (LegalClaim w.terms (saved_log w) q) (sym (ap claim_in e)) (of_seat w q inv).claim_legal

    claims : (restorable ≡ (seat_in w q).restorable) ⊎ (restorable ≡ Some (to_save_seat w.id w.terms q (seat_in w q))) → AreClaimsKept w.sent q (claim_in restorable)
    claims (inl e) = subst (AreClaimsKept w.sent q) (sym (ap claim_in e)) (of_seat w q inv).claims
    claims (inr e) = subst (AreClaimsKept w.sent q) (sym (ap claim_in e)) (claims_kept w q inv)

keeps_at : (w : ProtocolState) (q : Player) (new f : SeatState) → new ≡ f → SeatKeeps w q f → SeatKeeps w q new
keeps_at w q new f e h = subst (SeatKeeps w q) (sym e) h

save_at_seat : (w : ProtocolState) (q : Player) (o : Outcome) (new : SeatState) → Inv w → SeatSaveStep w.id w.terms q o (seat_in w q) new → SeatKeeps w q new
save_at_seat w q (outcomes.Saved k) new inv h = keeps_at w q new _ h.1.3 (saves_seat w q h.1.0 h.1.1 inv h.1.2)
save_at_seat w q outcomes.SaveFault new inv h = keeps_at w q new _ h.3 (tears_seat w q h.0 h.1 inv h.2)
save_at_seat w q outcomes.SavesSpent new inv h = same_keeps w q new inv h
save_at_seat w q outcomes.Memory new inv h = same_keeps w q new inv h
save_at_seat w q _ new inv h = absurd h

restart_seat : (w : ProtocolState) (q : Player) (o : Outcome) (new : SeatState) → Inv w → RestartsTo o (λ up. new ≡ restored_seat (seat_in w q).slots (seat_in w q).restorable up) → SeatKeeps w q new
restart_seat w q o new inv h = at_outcome o h
  where
    restorable : (up : Bool) → SeatKeeps w q (restored_seat (seat_in w q).slots (seat_in w q).restorable up)
    restorable up = let s = of_seat w q inv in restores_seat w q (seat_in w q).slots (seat_in w q).restorable up inv s.slots s.kept_log s.kept_legal s.claims

    at_outcome : (p : Outcome) → RestartsTo p (λ up. new ≡ restored_seat (seat_in w q).slots (seat_in w q).restorable up) → SeatKeeps w q new
    at_outcome outcomes.Restarted k = keeps_at w q new _ k (restorable true)
    at_outcome (outcomes.RestoreFault cause) k = keeps_at w q new _ k (restorable false)
    at_outcome outcomes.Memory k = keeps_at w q new _ k (restorable false)
    at_outcome _ k = absurd k

restarts : (o : Outcome) (w v : ProtocolState) (after : Bool → ProtocolState) → ((up : Bool) → Inv (after up)) → RestartsTo o (λ up. v ≡ after up) → Inv v
restarts outcomes.Restarted w v after inv h = subst Inv (sym h) (inv true)
restarts (outcomes.RestoreFault cause) w v after inv h = subst Inv (sym h) (inv false)
restarts outcomes.Memory w v after inv h = subst Inv (sym h) (inv false)
restarts _ w v after inv h = absurd h

-- ---- steps

at_watcher : (w : ProtocolState) (o : Outcome) (v : ProtocolState) (old : Option (List Entry)) (P : List Entry → Type 0) → Inv w → ((log : List Entry) → old ≡ Some log → P log → Inv v) → MatchOption old (NoParty w o v) P → Inv v
at_watcher w o v None P inv f h = stays w v inv h.1
at_watcher w o v (Some log) P inv f h = f log refl h

due : (w : ProtocolState) (word : ℕ) (o : Outcome) (v : ProtocolState) → Inv w → DueStep w word o v → Inv v
due w word (outcomes.Due (Ok n)) v inv h = subst Inv (sym h.2) (opens w word h.0 inv h.1)
due w word (outcomes.Due (Err f)) v inv h = stays w v inv h.1
due w word _ v inv h = absurd h

choose : (w : ProtocolState) (q : Player) (a : Action) (o : Outcome) (new : SeatState) → Inv w → ChooseStep w.terms q a o (seat_in w q) new → SeatKeeps w q new
choose w q a (outcomes.Chose (Ok n)) new inv h =
    keeps_at w q new _ (h.2 ∙ ap (λ (m : ℕ). record (seat_in w q) { claim = Some (m, a); claim_saved = false }) h.1) (chooses w q a inv h.0)
choose w q a (outcomes.Chose (Err f)) new inv h = same_keeps w q new inv h.1
choose w q a _ new inv h = absurd h

prefix_of : (w : ProtocolState) (q : Player) → Inv w → IsPrefix (seat_in w q).log (saved_log w)
prefix_of w q inv = (of_seat w q inv).log

take_at : (w : ProtocolState) (r : Role) (word : ℕ) (o : Outcome) (v : ProtocolState) → Inv w → TakeStep w r word o v → Inv v
take_at w AsReferee word o v inv h = if_up w.referee.up w o v _ inv (take_at_referee w word o v inv) h
take_at w (AsSeat q) word o v inv h =
    of_seat_row w q v _ inv (λ new. when_up (seat_in w q).up w q o new _ inv (λ k. keeps_at w q new _ k.2 (seat_learns w q k.0 inv (take_at_follower w (party_of q) o (seat_in w q).log k.0 inv (prefix_of w q inv) k.1)))) h
take_at w (AsWatcher i) word o v inv h =
    at_watcher w o v (slice_get w.watchers i) _ inv (λ old e k. subst Inv (sym k.2) (watcher_steps w i k.0 inv (take_at_follower w (3 + i) o old k.0 inv (inv.watchers i old e) k.1))) h

save_at : (w : ProtocolState) (r : Role) (o : Outcome) (v : ProtocolState) → Inv w → SaveStep w r o v → Inv v
save_at w AsReferee o v inv h = if_up w.referee.up w o v _ inv (save_at_referee w o v inv) h
save_at w (AsSeat q) o v inv h = of_seat_row w q v _ inv (λ new. when_up (seat_in w q).up w q o new _ inv (save_at_seat w q o new inv)) h
save_at w (AsWatcher i) o v inv h = stays w v inv h.1

tick_at : (w : ProtocolState) (r : Role) (o : Outcome) (v : ProtocolState) → Inv w → TickStep w r o v → Inv v
tick_at w AsReferee o v inv h = if_up w.referee.up w o v _ inv (ticks w o v _ 2 inv (λ d k. of_saved_may w d k.1)) h
tick_at w (AsSeat q) o v inv h =
    if_up (seat_in w q).up w o v _ inv (ticks w o v _ 1 inv (λ d k. seat_may w q d (seat_in w q).claim (seat_in w q).claim_saved inv (of_seat w q inv).claim_legal (of_seat w q inv).claim_old k)) h
tick_at w (AsWatcher i) o v inv h = at_watcher w o v (slice_get w.watchers i) _ inv (λ log e k. ticks w o v _ 1 inv (λ d m. want_may w d (3 + i) log (let l = slice_get_within w.watchers i log e in omega (l, arith)) (inv.watchers i log e) m) k) h

restart_at : (w : ProtocolState) (r : Role) (o : Outcome) (v : ProtocolState) → Inv w → RestartStep w r o v → Inv v
restart_at w AsReferee o v inv h =
    restarts o w v (λ up. record w { referee = restored_referee w.referee.slots w.referee.restorable up })
    (λ up. restores_referee w w.referee.slots w.referee.restorable up inv inv.referee.slots
    (subst (λ (l : List Entry). IsPrefix (saved_log w) l) (sym inv.referee.restorable) (prefix_same (saved_log w)))
    (subst (λ (l : List Entry). IsPrefix l w.referee.log) (sym inv.referee.restorable) (prefix_take w.referee.saved w.referee.log))) h
restart_at w (AsSeat q) o v inv h = of_seat_row w q v _ inv (λ new. restart_seat w q o new inv) h
restart_at w (AsWatcher i) o v inv h = at_watcher w o v (slice_get w.watchers i) _ inv (λ log e k. subst Inv (sym k.1) (watcher_steps w i [] inv (prefix_none (saved_log w)))) h

-- each step keeps the invariant
pub step_keeps : (w : ProtocolState) (e : Event) (o : Outcome) (v : ProtocolState) → Inv w → Step w e o v → Inv v
step_keeps w (events.Due word) o v inv h = if_up w.referee.up w o v _ inv (due w word o v inv) h
step_keeps w (events.Take party pick word) o v inv h = take_at w (role party) word o v inv h
step_keeps w (events.Choose q a) o v inv h = of_seat_row w q v _ inv (λ new. when_up (seat_in w q).up w q o new _ inv (choose w q a o new inv)) h
step_keeps w (events.Save party) o v inv h = save_at w (role party) o v inv h
step_keeps w (events.Tick party) o v inv h = tick_at w (role party) o v inv h
step_keeps w (events.Restart party) o v inv h = restart_at w (role party) o v inv h
