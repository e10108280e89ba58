-- Each call of a node keeps what holds of nodes: a seat's.
use Rattle.std.specs.Prelude.{◌≡◌, ℕ, ◌+◌, ◌-◌, ⊤, true, false, Option, Some, None, List, [], ◌∷◌, ◌++◌, Contains}
use Rattle.std.proofs.Common.{refl, sym, ◌∙◌, ap, subst, inr, arith}
use Rattle.std.proofs.lemmas.List.{append-nil}
use Rattle.std.proofs.lemmas.Option.{same_Some}
use Rattle.bg_board.specs.declared.players.Player.{Player}
use Rattle.bg_board.specs.declared.players.Player.TheVariants.{X, O}
use Rattle.bg_match.specs.declared.actions.Action.{Action}
use Rattle.bg_party.specs.Views.{SeatView, seat_after_save}
use Rattle.bg_wire.specs.Parties.{party_of}
use Rattle.bg_wire.specs.Saved.Restoring.{SlotsRestore}
use Rattle.bg_wire.specs.Saved.SavedText.{SavedParts}
use Rattle.bg_wire.specs.Saved.SlotLaws.{Slots}
use Rattle.bg_wire.specs.declared.packets.Datagram.{Datagram}
use Rattle.bg_protocol.specs.Protocol.FollowerTakeStep.{FollowerTakeStep}
use Rattle.bg_protocol.specs.Protocol.State.{restored_seat}
use Rattle.bg_protocol.specs.Protocol.Slots.{next_number}
use Rattle.bg_protocol.specs.Protocol.State.{ProtocolState, SeatState}
use Rattle.bg_protocol.specs.Protocol.TickStep.{SendsOnTick}
use Rattle.bg_protocol.specs.Worlds.Nodes.{SeatNodeChooses, SeatNodeRestarts, SeatNodeSaves, SeatNodeTakes, SeatNodeTicks, SeatNodeView}
use Rattle.bg_protocol.specs.Worlds.Views.{KeeperView, LinkView}
use Rattle.bg_protocol.specs.Worlds.WorldState.{KeepsWhatWasShown}
use Rattle.bg_protocol.specs.declared.events.Outcome.{Outcome}
use Rattle.bg_protocol.specs.declared.events.Outcome.TheVariants as outcomes
use Rattle.bg_protocol.proofs.Protocol.Saving.{SlotsOk}
use Rattle.bg_protocol.proofs.Steps.LearnRows.{seat_takes}
use Rattle.bg_fences.specs.SharedMatches.{SeatProcess, Stored, Becomes, seen_by_seat, seat_as_seen, stored_of, seats_of, with_stored, with_seats}
use Rattle.bg_fences.specs.ProcessCalls.{IsNewest}
use Rattle.bg_fences.specs.SharedNodes.{SharedNodes, IsFencedAt, cores_of, slots_of, with_seat_nodes, all_parties, seat_number, held_by, stored_in, process_of_seat}
use Rattle.bg_fences.specs.NodeActs.{seat_with}
use Rattle.bg_fences.proofs.Invariant.{Earlier, FencedInv, SeatProcessOk, ready}
use Rattle.bg_fences.proofs.SeatCalls as at_seat
use Rattle.bg_fences.proofs.NodeLists.{held_becomes, in_held, each_core, each_held}
use Rattle.bg_fences.proofs.Lists.{was_in}
use Rattle.bg_fences.proofs.NodeCalls.{NodesInv, law_of, seat_knows, watcher_knows}
use Rattle.bg_fences.proofs.SeatNodes.{IsSeatCoreOf, chose, seat_ticks, seat_save, SeatComes, whole, part, refused, nothing_saved, seat_saves_to, SeatComesBack, up, down, seat_restarts_to}

abbrev SeatAfter : SharedNodes → Player → List (Option SeatView) → Slots → List Datagram → SharedNodes
SeatAfter m q cores slots sent = record (with_seat_nodes m q cores slots) { sent = sent }

abbrev held : List (Option SeatView) → List SeatProcess
held cores = held_by process_of_seat cores

held_seats : {earlier : Earlier} (m : SharedNodes) (inv : NodesInv earlier m) (q : Player) → held (cores_of m q) ≡ seats_of (law_of m inv) q
held_seats {earlier} m inv X = refl
held_seats {earlier} m inv O = refl

kept_slots : {earlier : Earlier} (m : SharedNodes) (inv : NodesInv earlier m) (q : Player) → slots_of m q ≡ (stored_of (law_of m inv) q).slots
kept_slots {earlier} m inv X = refl
kept_slots {earlier} m inv O = refl

slots_ok : {earlier : Earlier} (m : SharedNodes) (inv : NodesInv earlier m) (q : Player) → SlotsOk m.id m.terms (party_of q) (stored_of (law_of m inv) q).slots (stored_of (law_of m inv) q).restorable
slots_ok {earlier} m inv q = (at_seat.rest_of (law_of m inv) q inv.inv).slots

finish : {earlier : Earlier} (m : SharedNodes) (inv : NodesInv earlier m) (q : Player) (core d : Option SeatView) (cores : List (Option SeatView)) (slots : Slots) (found : Option SavedParts) (sent out : List Datagram)
    → Becomes (cores_of m q) core (d ∷ []) cores → ((s : SeatView) → d ≡ Some s → IsSeatCoreOf m.id m.terms m.sent q s) → sent ≡ m.sent ++ out
    → FencedInv earlier (record (with_stored (with_seats (law_of m inv) q (held cores)) q (stored_in slots found)) { sent = sent }) → NodesInv earlier (SeatAfter m q cores slots sent)
finish {earlier} m inv X core d cores slots found sent out b new e after = record {
  restorable = record (inv.restorable) { x = found };
  inv = after;
  referees = inv.referees;
  seats = seats;
  watching = λ f k. let w = inv.watching f k in (w.0, watcher_knows m.id m.terms m.sent sent out w.0 f e w.1);
}
  where
    seats : (r : Player) (s : SeatView) → Contains (cores_of (SeatAfter m X cores slots sent) r) (Some s) → IsSeatCoreOf m.id m.terms sent r s
    seats X s k = seat_knows m.id m.terms m.sent sent out X s e (each_core (IsSeatCoreOf m.id m.terms m.sent X) m.xs core d cores b (inv.seats X) new s k)
    seats O s k = seat_knows m.id m.terms m.sent sent out O s e (inv.seats O s k)
finish {earlier} m inv O core d cores slots found sent out b new e after = record {
  restorable = record (inv.restorable) { o = found };
  inv = after;
  referees = inv.referees;
  seats = seats;
  watching = λ f k. let w = inv.watching f k in (w.0, watcher_knows m.id m.terms m.sent sent out w.0 f e w.1);
}
  where
    seats : (r : Player) (s : SeatView) → Contains (cores_of (SeatAfter m O cores slots sent) r) (Some s) → IsSeatCoreOf m.id m.terms sent r s
    seats X s k = seat_knows m.id m.terms m.sent sent out X s e (inv.seats X s k)
    seats O s k = seat_knows m.id m.terms m.sent sent out O s e (each_core (IsSeatCoreOf m.id m.terms m.sent O) m.os core d cores b (inv.seats O) new s k)

-- nothing was sent
quiet_kept : {earlier : Earlier} (m : SharedNodes) (inv : NodesInv earlier m) (q : Player) (core d : Option SeatView) (cores : List (Option SeatView)) (slots : Slots) (found : Option SavedParts) (sent : List Datagram)
    → Becomes (cores_of m q) core (d ∷ []) cores → ((s : SeatView) → d ≡ Some s → IsSeatCoreOf m.id m.terms m.sent q s) → sent ≡ m.sent
    → FencedInv earlier (with_stored (with_seats (law_of m inv) q (held cores)) q (stored_in slots found)) → NodesInv earlier (SeatAfter m q cores slots sent)
quiet_kept {earlier} m inv X core d cores slots found sent b new e after =
    finish m inv X core d cores slots found sent [] b new (e ∙ sym (append-nil m.sent))
    (subst (λ (l : List Datagram). FencedInv earlier (record (law_of m inv) { xs = held cores; x = stored_in slots found; sent = l })) (sym e) after)
quiet_kept {earlier} m inv O core d cores slots found sent b new e after =
    finish m inv O core d cores slots found sent [] b new (e ∙ sym (append-nil m.sent))
    (subst (λ (l : List Datagram). FencedInv earlier (record (law_of m inv) { os = held cores; o = stored_in slots found; sent = l })) (sym e) after)

-- nor were the slots written
quiet_seats : {earlier : Earlier} (m : SharedNodes) (inv : NodesInv earlier m) (q : Player) (core d : Option SeatView) (cores : List (Option SeatView)) (slots : Slots) (sent : List Datagram)
    → Becomes (cores_of m q) core (d ∷ []) cores → ((s : SeatView) → d ≡ Some s → IsSeatCoreOf m.id m.terms m.sent q s) → slots ≡ slots_of m q → sent ≡ m.sent
    → FencedInv earlier (with_seats (law_of m inv) q (held cores)) → NodesInv earlier (SeatAfter m q cores slots sent)
quiet_seats {earlier} m inv X core d cores slots sent b new s e after =
    quiet_kept m inv X core d cores slots inv.restorable.x sent b new e
    (subst (λ (x : Slots). FencedInv earlier (record (law_of m inv) { xs = held cores; x = stored_in x inv.restorable.x })) (sym s) after)
quiet_seats {earlier} m inv O core d cores slots sent b new s e after =
    quiet_kept m inv O core d cores slots inv.restorable.o sent b new e
    (subst (λ (x : Slots). FencedInv earlier (record (law_of m inv) { os = held cores; o = stored_in x inv.restorable.o })) (sym s) after)

abbrev IsInOrder : {earlier : Earlier} (m : SharedNodes) → NodesInv earlier m → Player → SeatProcess → Type 0
IsInOrder {earlier} m inv q p = SeatProcessOk m.id m.terms m.sent (ready (law_of m inv)) q (stored_of (law_of m inv) q) ((inv.inv).seats q).ever p

rests : {earlier : Earlier} (m : SharedNodes) (inv : NodesInv earlier m) (q : Player) (core d : Option SeatView) (cores : List (Option SeatView)) (slots : Slots) (sent : List Datagram)
    → Becomes (cores_of m q) core (d ∷ []) cores → slots ≡ slots_of m q → sent ≡ m.sent
    → ((s : SeatView) → d ≡ Some s → IsInOrder m inv q (process_of_seat s) × IsSeatCoreOf m.id m.terms m.sent q s) → NodesInv earlier (SeatAfter m q cores slots sent)
rests {earlier} m inv q core d cores slots sent b s e new =
    let was = (inv.inv).seats q in
    quiet_seats m inv q core d cores slots sent b (λ c is. (new c is).1) s e
    (at_seat.change_seats (law_of m inv) q (held cores) inv.inv (record {
      ever = was.ever;
      kept = was.kept;
      in_slots = was.in_slots;
      was_sent = was.was_sent;
      each = each_held process_of_seat (IsInOrder m inv q) (cores_of m q) core d cores b
          (λ x k. was.each x (subst (λ (l : List SeatProcess). Contains l x) (held_seats m inv q) k)) (λ c is. (new c is).0);
      begun = was.begun;
    }))

clash : (s : SeatView) → ◌≡◌ {A = Option SeatView} None (Some s) → ⊥
clash s k = cc

is_down : {earlier : Earlier} (m : SharedNodes) (inv : NodesInv earlier m) (q : Player) (core d : Option SeatView) (cores : List (Option SeatView)) (slots : Slots) (sent : List Datagram)
    → Becomes (cores_of m q) core (d ∷ []) cores → slots ≡ slots_of m q → sent ≡ m.sent → d ≡ None → NodesInv earlier (SeatAfter m q cores slots sent)
is_down {earlier} m inv q core d cores slots sent b s e nobody = rests m inv q core d cores slots sent b s e (λ c is. absurd (clash c (sym nobody ∙ is)))

the_core : {earlier : Earlier} (m : SharedNodes) (inv : NodesInv earlier m) (q : Player) (s : SeatView) (d : Option SeatView) (cores : List (Option SeatView)) → Becomes (cores_of m q) (Some s) (d ∷ []) cores → IsSeatCoreOf m.id m.terms m.sent q s
the_core {earlier} m inv q s d cores b = inv.seats q s (was_in (cores_of m q) (Some s) (d ∷ []) cores b)

the_order : {earlier : Earlier} (m : SharedNodes) (inv : NodesInv earlier m) (q : Player) (s : SeatView) (d : Option SeatView) (cores : List (Option SeatView)) → Becomes (cores_of m q) (Some s) (d ∷ []) cores → IsInOrder m inv q (process_of_seat s)
the_order {earlier} m inv q s d cores b =
    ((inv.inv).seats q).each (process_of_seat s)
    (subst (λ (l : List SeatProcess). Contains l (process_of_seat s)) (held_seats m inv q) (in_held process_of_seat (cores_of m q) s (was_in (cores_of m q) (Some s) (d ∷ []) cores b)))

becomes : {earlier : Earlier} (m : SharedNodes) (inv : NodesInv earlier m) (q : Player) (s : SeatView) (d : Option SeatView) (cores : List (Option SeatView)) → Becomes (cores_of m q) (Some s) (d ∷ []) cores
    → Becomes (seats_of (law_of m inv) q) (process_of_seat s) (held (d ∷ [])) (held cores)
becomes {earlier} m inv q s d cores b =
    subst (λ (l : List SeatProcess). Becomes l (process_of_seat s) (held (d ∷ [])) (held cores)) (held_seats m inv q) (held_becomes process_of_seat (cores_of m q) s d cores b)

told_own : (m : SharedNodes) (q : Player) (s' x : SeatView) → IsSeatCoreOf m.id m.terms m.sent q s' → Some s' ≡ Some x → IsSeatCoreOf m.id m.terms m.sent q x
told_own m q s' x fits e = subst (IsSeatCoreOf m.id m.terms m.sent q) (same_Some s' x e) fits

node_is : {earlier : Earlier} (m : SharedNodes) (q : Player) (cores : List (Option SeatView)) (sent : List Datagram) (core : Option SeatView) (after now : SeatNodeView) → after ≡ now
    → (Becomes (cores_of m q) core (now.core ∷ []) cores → NodesInv earlier (SeatAfter m q cores (slots_of m q) sent))
    → Becomes (cores_of m q) core (after.core ∷ []) cores → NodesInv earlier (SeatAfter m q cores (slots_of m q) sent)
node_is {earlier} m q cores sent core after now e f =
    subst (λ (x : SeatNodeView). Becomes (cores_of m q) core (x.core ∷ []) cores → NodesInv earlier (SeatAfter m q cores (slots_of m q) sent)) (sym e) f

pub take_acts : {earlier : Earlier} (m : SharedNodes) (inv : NodesInv earlier m) (q : Player) (pick : ℕ) (o : Outcome) (core : Option SeatView) (old new : LinkView) (after : SeatNodeView) (cores : List (Option SeatView))
    → old.sent ≡ m.sent → SeatNodeTakes ⊤ old (seat_with m q core) pick o new after
    → Becomes (cores_of m q) core (after.core ∷ []) cores → NodesInv earlier (SeatAfter m q cores (slots_of m q) new.sent)
take_acts {earlier} m inv q pick o None old new after cores e h =
    node_is m q cores new.sent None after (seat_with m q None) h.2 (λ b. is_down m inv q None None cores (slots_of m q) new.sent b refl (ap (λ (x : LinkView). x.sent) h.1 ∙ e) refl)
take_acts {earlier} m inv q pick o (Some c) old new after cores e h =
    node_is m q cores new.sent (Some c) after (seat_with m q (Some h.0)) h.2
    (λ b.
    let fits = the_core m inv q c (Some h.0) cores b in
    let t = seat_takes m.id m.terms ⊤ tt (party_of q) pick old new c o h.0 fits.log
    (subst (λ (l : List Datagram). KeepsWhatWasShown m.id m.terms l (party_of q) c.follower) (sym e) fits.early) h.1 in
    let row = subst (λ (l : List Datagram). FollowerTakeStep m.id m.terms l (party_of q) o c.follower.log.entries (h.0).follower.log.entries) e t.0.0 in
    let early = subst (λ (l : List Datagram). KeepsWhatWasShown m.id m.terms l (party_of q) (h.0).follower) e t.0.2 in
    let player : (h.0).player ≡ c.player = ap (λ (x : SeatView). x.player) t.1 in
    let number : (h.0).next_save ≡ c.next_save = ap (λ (x : SeatView). x.next_save) t.1 in
    let mine : IsSeatCoreOf m.id m.terms m.sent q h.0 = record { sits_for = player ∙ fits.sits_for; log = t.0.1; numbered = (let l = fits.numbered in omega (l, number, arith)); early = early } in
    quiet_seats m inv q (Some c) (Some h.0) cores (slots_of m q) new.sent b (λ x is. told_own m q h.0 x mine is) refl (t.2 ∙ e)
    (at_seat.takes_packet (law_of m inv) q (process_of_seat c) o (h.0).follower.log.entries (held cores) inv.inv row
    (subst (λ (p : SeatProcess). Becomes (seats_of (law_of m inv) q) (process_of_seat c) (p ∷ []) (held cores)) (ap process_of_seat t.1)
    (becomes m inv q c (Some h.0) cores b))))

pub choose_acts : {earlier : Earlier} (m : SharedNodes) (inv : NodesInv earlier m) (q : Player) (a : Action) (o : Outcome) (core : Option SeatView) (after : SeatNodeView) (cores : List (Option SeatView))
    → SeatNodeChooses (seat_with m q core) a o after
    → Becomes (cores_of m q) core (after.core ∷ []) cores → NodesInv earlier (SeatAfter m q cores (slots_of m q) m.sent)
choose_acts {earlier} m inv q a o None after cores h =
    node_is m q cores m.sent None after (seat_with m q None) h.1 (λ b. is_down m inv q None None cores (slots_of m q) m.sent b refl refl refl)
choose_acts {earlier} m inv q a o (Some c) after cores h =
    node_is m q cores m.sent (Some c) after (seat_with m q (Some h.1)) h.4
    (λ b.
    let k = stored_of (law_of m inv) q in
    let t = chose m.id m.terms m.sent q a k c (the_core m inv q c (Some h.1) cores b) h.0 h.1 h.2 in
    quiet_seats m inv q (Some c) (Some h.1) cores (slots_of m q) m.sent b (λ x is. told_own m q h.1 x t.1 is) refl refl
    (at_seat.chooses (law_of m inv) q (process_of_seat c) a (outcomes.Chose h.0) (seat_as_seen k (process_of_seat h.1)) (held cores) inv.inv t.0
    (subst (λ (l : ℕ). Becomes (seats_of (law_of m inv) q) (process_of_seat c)
    (record { log = (h.1).follower.log.entries; claim = (h.1).claim; claim_saved = (h.1).claim_saved; last_save = l } ∷ []) (held cores)) t.2
    (becomes m inv q c (Some h.1) cores b))))

abbrev Grown : List Datagram → List Datagram → Type 0
Grown old new = (out : List Datagram) × (new ≡ old ++ out)

pub tick_grows : (may : Datagram → Type 0) (w v : ProtocolState) (o : Outcome) → SendsOnTick may 1 w o v → Grown w.sent v.sent
tick_grows may w v (outcomes.Sent n) h = (h.0.out, ap (λ (x : ProtocolState). x.sent) h.0.after)
tick_grows may w v outcomes.LinkFault h = (h.out, ap (λ (x : ProtocolState). x.sent) h.after)
tick_grows may w v outcomes.Memory h = (h.out, ap (λ (x : ProtocolState). x.sent) h.after)
tick_grows may w v _ h = absurd h

pub tick_acts : {earlier : Earlier} (m : SharedNodes) (inv : NodesInv earlier m) (q : Player) (o : Outcome) (core : Option SeatView) (old new : LinkView) (after : SeatNodeView) (cores : List (Option SeatView))
    → old.sent ≡ m.sent → SeatNodeTicks ⊤ (all_parties m) old (seat_with m q core) o new after
    → Becomes (cores_of m q) core (after.core ∷ []) cores → NodesInv earlier (SeatAfter m q cores (slots_of m q) new.sent)
tick_acts {earlier} m inv q o None old new after cores e h =
    node_is m q cores new.sent None after (seat_with m q None) h.2 (λ b. is_down m inv q None None cores (slots_of m q) new.sent b refl (ap (λ (x : LinkView). x.sent) h.1 ∙ e) refl)
tick_acts {earlier} m inv X o (Some c) old new after cores e h =
    node_is m X cores new.sent (Some c) after (seat_with m X (Some h.0)) h.2
    (λ b.
    let S = law_of m inv in
    let p = process_of_seat c in
    let v : ProtocolState = record (seen_by_seat S X p) { sent = new.sent } in
    let t = seat_ticks m.id m.terms m.sent X (all_parties m) (seen_by_seat S X p) v old new o c h.0 (the_core m inv X c (Some h.0) cores b) e refl h.1 in
    let grown = tick_grows (at_seat.MaySay S X p) (seen_by_seat S X p) v o t.0 in
    let n = record S { xs = held cores; sent = new.sent } in
    let goes : Becomes S.xs p (p ∷ []) (held cores) = subst (λ (y : SeatProcess). Becomes S.xs p (y ∷ []) (held cores)) t.2 (becomes m inv X c (Some h.0) cores b) in
    finish m inv X (Some c) (Some h.0) cores m.x_slots inv.restorable.x new.sent grown.0 b (λ x is. told_own m X h.0 x t.1 is) grown.1
    (at_seat.ticks S X p o v n inv.inv t.0 (held cores, goes, refl)))
tick_acts {earlier} m inv O o (Some c) old new after cores e h =
    node_is m O cores new.sent (Some c) after (seat_with m O (Some h.0)) h.2
    (λ b.
    let S = law_of m inv in
    let p = process_of_seat c in
    let v : ProtocolState = record (seen_by_seat S O p) { sent = new.sent } in
    let t = seat_ticks m.id m.terms m.sent O (all_parties m) (seen_by_seat S O p) v old new o c h.0 (the_core m inv O c (Some h.0) cores b) e refl h.1 in
    let grown = tick_grows (at_seat.MaySay S O p) (seen_by_seat S O p) v o t.0 in
    let n = record S { os = held cores; sent = new.sent } in
    let goes : Becomes S.os p (p ∷ []) (held cores) = subst (λ (y : SeatProcess). Becomes S.os p (y ∷ []) (held cores)) t.2 (becomes m inv O c (Some h.0) cores b) in
    finish m inv O (Some c) (Some h.0) cores m.o_slots inv.restorable.o new.sent grown.0 b (λ x is. told_own m O h.0 x t.1 is) grown.1
    (at_seat.ticks S O p o v n inv.inv t.0 (held cores, goes, refl)))

is_newest : (k : Stored) (c : SeatView) → c.next_save ≡ next_number k.restorable → IsNewest k.restorable (process_of_seat c).last_save
is_newest k c next = omega (next, arith)

number_of : (n : ℕ) → n + 1 - 1 ≡ n
number_of n = omega arith

pub save_acts : {earlier : Earlier} (m : SharedNodes) (inv : NodesInv earlier m) (q : Player) (o : Outcome) (core : Option SeatView) (keeper new : KeeperView) (after : SeatNodeView) (cores : List (Option SeatView))
    → keeper.slots ≡ slots_of m q → SeatNodeSaves ⊤ keeper (seat_with m q core) o new after
    → IsFencedAt keeper.slots (seat_number core) o new.slots
    → Becomes (cores_of m q) core (after.core ∷ []) cores → NodesInv earlier (SeatAfter m q cores new.slots m.sent)
save_acts {earlier} m inv q o None keeper new after cores s h fence b = is_down m inv q None after.core cores new.slots m.sent b (fence ∙ s) refl h.0.2
save_acts {earlier} m inv q o (Some c) keeper new after cores s h fence b =
    at_place (seat_saves_to m.id m.terms m.sent q (stored_of (law_of m inv) q) c keeper new o after.core fits (slots_ok m inv q) (s ∙ kept_slots m inv q) h.0 fence)
  where
    fits : IsSeatCoreOf m.id m.terms m.sent q c
    fits = the_core m inv q c after.core cores b

    as_is : (d : Option SeatView) → after.core ≡ d → Becomes (cores_of m q) (Some c) (d ∷ []) cores
    as_is d g = subst (λ (x : Option SeatView). Becomes (cores_of m q) (Some c) (x ∷ []) cores) g b

    at_place : SeatComes m.id m.terms q (stored_of (law_of m inv) q) c o new.slots after.core → NodesInv earlier (SeatAfter m q cores new.slots m.sent)
    at_place (whole next f g w) =
        let k = stored_of (law_of m inv) q in
        let parts = seat_save m.id m.terms q k c in
        let state : SeatState = record (seat_as_seen k (process_of_seat c)) { claim_saved = true; slots = new.slots; restorable = Some parts } in
        quiet_kept m inv q (Some c) (Some (seat_after_save c c.next_save)) cores new.slots (Some parts) m.sent (as_is (Some (seat_after_save c c.next_save)) g)
        (λ x is. told_own m q (seat_after_save c c.next_save) x (record { sits_for = fits.sits_for; log = fits.log; numbered = omega arith; early = fits.early }) is) refl
        (at_seat.saves (law_of m inv) q (process_of_seat c) (outcomes.Saved c.next_save)
        (with_stored (with_seats (law_of m inv) q (held cores)) q (stored_in new.slots (Some parts))) inv.inv (
          state,
          held cores,
          is_newest k c next,
          (next, (new.slots, Some parts, w, refl)),
          subst (λ (l : ℕ). Becomes (seats_of (law_of m inv) q) (process_of_seat c)
              (record { log = c.follower.log.entries; claim = c.claim; claim_saved = true; last_save = l } ∷ []) (held cores)) (number_of c.next_save)
              (becomes m inv q c (Some (seat_after_save c c.next_save)) cores (as_is (Some (seat_after_save c c.next_save)) g)),
          refl,
        ))
    at_place (part left next f g t) =
        let k = stored_of (law_of m inv) q in
        quiet_kept m inv q (Some c) None cores new.slots left m.sent (as_is None g) (λ x is. absurd (clash x is)) refl
        (at_seat.saves (law_of m inv) q (process_of_seat c) outcomes.SaveFault
        (with_stored (with_seats (law_of m inv) q (held cores)) q (stored_in new.slots left)) inv.inv (
          held cores,
          becomes m inv q c None cores (as_is None g),
          inr (restored_seat new.slots left false, is_newest k c next, (new.slots, left, t, refl), refl),
        ))
    at_place (refused f g t) = is_down m inv q (Some c) after.core cores new.slots m.sent b (t ∙ sym (kept_slots m inv q)) refl g
    at_place (nothing_saved t g f) =
        rests m inv q (Some c) after.core cores new.slots m.sent b (t ∙ sym (kept_slots m inv q)) refl
        (λ x is. subst (λ (y : SeatView). IsInOrder m inv q (process_of_seat y) × IsSeatCoreOf m.id m.terms m.sent q y) (same_Some c x (sym g ∙ is)) (the_order m inv q c after.core cores b, fits))

pub restart_acts : {earlier : Earlier} (m : SharedNodes) (inv : NodesInv earlier m) (q : Player) (o : Outcome) (core : Option SeatView) (keeper new : KeeperView) (after : SeatNodeView) (cores : List (Option SeatView))
    → ((found : Option SavedParts) → SlotsRestore keeper.slots.zero keeper.slots.one found → earlier.seat q found) → SeatNodeRestarts ⊤ keeper (seat_with m q core) o new after
    → Becomes (cores_of m q) core (after.core ∷ []) cores → NodesInv earlier (SeatAfter m q cores (slots_of m q) m.sent)
restart_acts {earlier} m inv q o core keeper new after cores was h b = at_place (seat_restarts_to m.id m.terms m.sent q keeper new o after.core h.0)
  where
    at_place : SeatComesBack m.id m.terms m.sent q keeper.slots after.core → NodesInv earlier (SeatAfter m q cores (slots_of m q) m.sent)
    at_place (up c found restore g is fits) =
        rests m inv q core after.core cores (slots_of m q) m.sent b refl refl
        (λ x k. subst (λ (y : SeatView). IsInOrder m inv q (process_of_seat y) × IsSeatCoreOf m.id m.terms m.sent q y) (same_Some c x (sym g ∙ k))
        (subst (IsInOrder m inv q) (sym is) (((inv.inv).seats q).begun found (was found restore)), fits))
    at_place (down g) = is_down m inv q core after.core cores (slots_of m q) m.sent b refl refl g
