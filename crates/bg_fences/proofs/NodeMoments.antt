-- The moments of a match of nodes: what the slots had, and what they restored, at each.
use Rattle.std.specs.Prelude.{◌≡◌, ◌⊎◌, ℕ, ◌-◌, ⊤, Option, Some, None, List, [], ◌∷◌, Contains}
use Rattle.std.proofs.Common.{refl, sym, ◌∙◌, ap, subst, inl, inr}
use Rattle.bg_board.specs.declared.players.Player.{Player}
use Rattle.bg_board.specs.declared.players.Player.TheVariants.{X, O}
use Rattle.bg_match.specs.Terms.{Terms}
use Rattle.bg_party.specs.Views.{SeatView}
use Rattle.bg_referee.specs.Referee.{RefereeView}
use Rattle.bg_wire.proofs.OfSaves.OneText.{empty_loads, restores_once}
use Rattle.bg_wire.specs.Parties.{party_of}
use Rattle.bg_wire.specs.Saved.Restoring.{SlotsRestore}
use Rattle.bg_wire.specs.Saved.SavedText.{IsSavedText, SavedParts}
use Rattle.bg_wire.specs.Saved.SlotLaws.{Slots, bytes_in}
use Rattle.bg_wire.specs.declared.packets.Datagram.{Datagram}
use Rattle.bg_wire.specs.declared.saves.slots.Slot.{Slot}
use Rattle.bg_wire.specs.declared.saves.slots.Slot.TheVariants.{Zero, One}
use Rattle.bg_protocol.proofs.Protocol.Saving.{SlotsOk}
use Rattle.bg_protocol.specs.Protocol.Roles.{role}
use Rattle.bg_protocol.specs.Protocol.SaveStep.{to_save_referee}
use Rattle.bg_protocol.specs.Worlds.Nodes.{RefereeNodeSaves, RefereeNodeView, SeatNodeSaves, SeatNodeView}
use Rattle.bg_protocol.specs.Worlds.Views.{KeeperView}
use Rattle.bg_protocol.specs.declared.events.Event.{Event}
use Rattle.bg_protocol.specs.declared.events.Event.TheVariants as events
use Rattle.bg_protocol.specs.declared.events.Outcome.{Outcome}
use Rattle.bg_protocol.specs.declared.roles.Role.{Role}
use Rattle.bg_protocol.specs.declared.roles.Role.TheVariants as roles
use Rattle.bg_fences.specs.NodeActs.{NodeActs, NodeRestarts, NodeSaves, NodeTakes, NodeTicks, no_node_begun, referee_with, seat_with}
use Rattle.bg_fences.specs.SharedMatches.{Becomes, Stored, stored_of}
use Rattle.bg_fences.specs.SharedNodes.{IsFencedAt, SharedNodes, cores_of, referee_number, seat_number, slots_of, with_seat_nodes}
use Rattle.bg_fences.proofs.AllCalls.{remembers}
use Rattle.bg_fences.proofs.Invariant.{Earlier}
use Rattle.bg_fences.proofs.Lists.{cases_in, head_in, none_in, was_in}
use Rattle.bg_fences.proofs.NodeCalls.{NodesInv, law_of}
use Rattle.bg_fences.proofs.RefereeNodes.{Comes, nothing_saved, part, refused, saves_to, state_of, whole}
use Rattle.bg_fences.proofs.SeatCalls.{rest_of}
use Rattle.bg_fences.proofs.SeatNodes.{SeatComes, seat_save, seat_saves_to, nothing_saved as seat_nothing, part as seat_part, refused as seat_refused, whole as seat_whole}
use Rattle.bg_fences.proofs.SlotReads.{Keeps, Traced, WasRestored, same_keeps, torn_keeps, traces, written_keeps}

-- what the slots of each party restored at one of these moments
abbrev pub earlier_nodes : List SharedNodes → Earlier
earlier_nodes moments = record {
  referee = λ found. WasRestored (λ past. past.referee_slots) moments found;
  seat = λ q found. WasRestored (λ past. slots_of past q) moments found;
}

-- each text in a slot at one of them was restored at one of them
pub record MomentsOk (moments : List SharedNodes) : Type 0 where
  pub referee : Traced (λ past. past.referee_slots) moments
  pub seats : (q : Player) → Traced (λ past. slots_of past q) moments

-- ---- how a call leaves the slots of each party

pub record StoreKeeps (m n : SharedNodes) : Type 0 where
  pub referee : Keeps m.referee_slots n.referee_slots
  pub seats : (q : Player) → Keeps (slots_of m q) (slots_of n q)

-- the cores of the referee alone changed, or those of watchers
stays : (m n : SharedNodes) → n.referee_slots ≡ m.referee_slots → n.x_slots ≡ m.x_slots → n.o_slots ≡ m.o_slots → StoreKeeps m n
stays m n r x o = record { referee = same_keeps m.referee_slots n.referee_slots r; seats = seats }
  where
    seats : (q : Player) → Keeps (slots_of m q) (slots_of n q)
    seats X = same_keeps m.x_slots n.x_slots x
    seats O = same_keeps m.o_slots n.o_slots o

referee_saved : (m : SharedNodes) (cores : List (Option RefereeView)) (slots : Slots) → Keeps m.referee_slots slots → StoreKeeps m (record m { referees = cores; referee_slots = slots })
referee_saved m cores slots k = record { referee = k; seats = seats }
  where
    seats : (q : Player) → Keeps (slots_of m q) (slots_of (record m { referees = cores; referee_slots = slots }) q)
    seats X = same_keeps m.x_slots m.x_slots refl
    seats O = same_keeps m.o_slots m.o_slots refl

seat_changed : (m : SharedNodes) (q : Player) (cores : List (Option SeatView)) (slots : Slots) (sent : List Datagram) → Keeps (slots_of m q) slots
    → StoreKeeps m (record (with_seat_nodes m q cores slots) { sent = sent })
seat_changed m X cores slots sent k = record { referee = same_keeps m.referee_slots m.referee_slots refl; seats = seats }
  where
    seats : (q : Player) → Keeps (slots_of m q) (slots_of (record m { xs = cores; x_slots = slots; sent = sent }) q)
    seats X = k
    seats O = same_keeps m.o_slots m.o_slots refl
seat_changed m O cores slots sent k = record { referee = same_keeps m.referee_slots m.referee_slots refl; seats = seats }
  where
    seats : (q : Player) → Keeps (slots_of m q) (slots_of (record m { os = cores; o_slots = slots; sent = sent }) q)
    seats X = same_keeps m.x_slots m.x_slots refl
    seats O = k

seat_saved : (m : SharedNodes) (q : Player) (cores : List (Option SeatView)) (slots : Slots) → Keeps (slots_of m q) slots → StoreKeeps m (with_seat_nodes m q cores slots)
seat_saved m X cores slots k = seat_changed m X cores slots m.sent k
seat_saved m O cores slots k = seat_changed m O cores slots m.sent k

save_keeps : {earlier : Earlier} (m : SharedNodes) (inv : NodesInv earlier m) (o : Outcome) (core : Option RefereeView) (keeper new : KeeperView) (after : RefereeNodeView) (cores : List (Option RefereeView))
    → keeper.slots ≡ m.referee_slots → RefereeNodeSaves ⊤ keeper (referee_with m core) o new after → IsFencedAt keeper.slots (referee_number core) o new.slots
    → Becomes m.referees core (after.core ∷ []) cores → Keeps m.referee_slots new.slots
save_keeps m inv o None keeper new after cores s h fence b = same_keeps m.referee_slots new.slots (fence ∙ s)
save_keeps m inv o (Some c) keeper new after cores s h fence b =
    of (saves_to (law_of m inv) (c.next_save - 1) c keeper new o after.core (inv.referees c (was_in m.referees (Some c) (after.core ∷ []) cores b)) ((inv.inv).base.referee.slots) s h.0 fence)
  where
    of : Comes (law_of m inv) c o new.slots after.core → Keeps m.referee_slots new.slots
    of (whole next f g w) = written_keeps (to_save_referee (state_of (law_of m inv) m.sent c)) m.referee_slots new.slots w
    of (part left next f g t) =
        torn_keeps m.id m.terms 0 (to_save_referee (state_of (law_of m inv) m.sent c)) m.referee_slots new.slots inv.restorable.referee left ((inv.inv).base.referee.slots)
        (record { party = refl; id = refl; terms = refl }) refl t
    of (refused f g t) = same_keeps m.referee_slots new.slots t
    of (nothing_saved t g f) = same_keeps m.referee_slots new.slots t

same_slots : {earlier : Earlier} (m : SharedNodes) (inv : NodesInv earlier m) (q : Player) → slots_of m q ≡ (stored_of (law_of m inv) q).slots
same_slots m inv X = refl
same_slots m inv O = refl

seat_save_keeps : {earlier : Earlier} (m : SharedNodes) (inv : NodesInv earlier m) (q : Player) (o : Outcome) (core : Option SeatView) (keeper new : KeeperView) (after : SeatNodeView) (cores : List (Option SeatView))
    → keeper.slots ≡ slots_of m q → SeatNodeSaves ⊤ keeper (seat_with m q core) o new after → IsFencedAt keeper.slots (seat_number core) o new.slots
    → Becomes (cores_of m q) core (after.core ∷ []) cores → Keeps (slots_of m q) new.slots
seat_save_keeps m inv q o None keeper new after cores s h fence b = same_keeps (slots_of m q) new.slots (fence ∙ s)
seat_save_keeps m inv q o (Some c) keeper new after cores s h fence b =
    subst (λ (x : Slots). Keeps x new.slots) (sym same)
    (of (seat_saves_to m.id m.terms m.sent q k c keeper new o after.core (inv.seats q c (was_in (cores_of m q) (Some c) (after.core ∷ []) cores b)) ok (s ∙ same) h.0 fence))
  where
    k : Stored
    k = stored_of (law_of m inv) q

    same : slots_of m q ≡ k.slots
    same = same_slots m inv q

    ok : SlotsOk m.id m.terms (party_of q) k.slots k.restorable
    ok = (rest_of (law_of m inv) q inv.inv).slots

    of : SeatComes m.id m.terms q k c o new.slots after.core → Keeps k.slots new.slots
    of (seat_whole next f g w) = written_keeps (seat_save m.id m.terms q k c) k.slots new.slots w
    of (seat_part left next f g t) = torn_keeps m.id m.terms (party_of q) (seat_save m.id m.terms q k c) k.slots new.slots k.restorable left ok (record { party = refl; id = refl; terms = refl }) refl t
    of (seat_refused f g t) = same_keeps k.slots new.slots t
    of (seat_nothing t g f) = same_keeps k.slots new.slots t

takes : (m : SharedNodes) (r : Role) (pick word : ℕ) (o : Outcome) (n : SharedNodes) → NodeTakes m r pick word o n → StoreKeeps m n
takes m roles.Referee pick word o n h = subst (StoreKeeps m) (sym h.8) (stays m _ refl refl refl)
takes m (roles.Seat q) pick word o n h = subst (StoreKeeps m) (sym h.8) (seat_changed m q h.4 (slots_of m q) _ (same_keeps (slots_of m q) (slots_of m q) refl))
takes m (roles.Watcher index) pick word o n h = subst (StoreKeeps m) (sym h.9) (stays m _ refl refl refl)

ticks : (m : SharedNodes) (r : Role) (o : Outcome) (n : SharedNodes) → NodeTicks m r o n → StoreKeeps m n
ticks m roles.Referee o n h = subst (StoreKeeps m) (sym h.8) (stays m _ refl refl refl)
ticks m (roles.Seat q) o n h = subst (StoreKeeps m) (sym h.8) (seat_changed m q h.4 (slots_of m q) _ (same_keeps (slots_of m q) (slots_of m q) refl))
ticks m (roles.Watcher index) o n h = subst (StoreKeeps m) (sym h.9) (stays m _ refl refl refl)

saves : {earlier : Earlier} (m : SharedNodes) (r : Role) (o : Outcome) (n : SharedNodes) → NodesInv earlier m → NodeSaves m r o n → StoreKeeps m n
saves m roles.Referee o n inv h = subst (StoreKeeps m) (sym h.8) (referee_saved m h.4 (h.2).slots (save_keeps m inv o h.0 h.1 h.2 h.3 h.4 h.5 (h.6).0 (h.6).1 h.7))
saves m (roles.Seat q) o n inv h = subst (StoreKeeps m) (sym h.8) (seat_saved m q h.4 (h.2).slots (seat_save_keeps m inv q o h.0 h.1 h.2 h.3 h.4 h.5 (h.6).0 (h.6).1 h.7))
saves m (roles.Watcher index) o n inv h = subst (StoreKeeps m) (sym h) (stays m m refl refl refl)

restarts : (moments : List SharedNodes) (m : SharedNodes) (r : Role) (o : Outcome) (n : SharedNodes) → NodeRestarts moments m r o n → StoreKeeps m n
restarts moments m roles.Referee o n h = subst (StoreKeeps m) (sym h.8) (stays m _ refl refl refl)
restarts moments m (roles.Seat q) o n h = subst (StoreKeeps m) (sym h.8) (seat_saved m q h.4 (slots_of m q) (same_keeps (slots_of m q) (slots_of m q) refl))
restarts moments m (roles.Watcher index) o n h = subst (StoreKeeps m) (sym h.2) (stays m _ refl refl refl)

pub slots_keep : {earlier : Earlier} (moments : List SharedNodes) (m : SharedNodes) (e : Event) (o : Outcome) (n : SharedNodes) → NodesInv earlier m → NodeActs moments m e o n → StoreKeeps m n
slots_keep moments m (events.Due word) o n inv h = subst (StoreKeeps m) (sym h.5) (stays m _ refl refl refl)
slots_keep moments m (events.Take party pick word) o n inv h = takes m (role party) pick word o n h
slots_keep moments m (events.Choose q a) o n inv h = subst (StoreKeeps m) (sym h.5) (seat_saved m q h.2 (slots_of m q) (same_keeps (slots_of m q) (slots_of m q) refl))
slots_keep moments m (events.Save party) o n inv h = saves m (role party) o n inv h
slots_keep moments m (events.Tick party) o n inv h = ticks m (role party) o n h
slots_keep moments m (events.Restart party) o n inv h = restarts moments m (role party) o n h

-- ---- one moment more

pub one_moment : (moments : List SharedNodes) (m n : SharedNodes) → Contains moments m → MomentsOk moments → StoreKeeps m n → MomentsOk (n ∷ moments)
one_moment moments m n there were keep = record {
  referee = traces (λ past. past.referee_slots) moments m n there (head_in n moments) keep.referee were.referee;
  seats = λ q. traces (λ past. slots_of past q) moments m n there (head_in n moments) (keep.seats q) (were.seats q);
}

pub first_moment : (id : ℕ) (terms : Terms) (watchers a b c : ℕ) → MomentsOk (no_node_begun id terms watchers a b c ∷ [])
first_moment id terms watchers a b c = record { referee = of_party (λ past. past.referee_slots) refl; seats = λ q. of_party (λ past. slots_of past q) (of_seat q) }
  where
    start : SharedNodes
    start = no_node_begun id terms watchers a b c

    of_seat : (q : Player) → slots_of start q ≡ start.referee_slots
    of_seat X = refl
    of_seat O = refl

    no_text : (slot : Slot) (p : SavedParts) → IsSavedText p (bytes_in start.referee_slots slot) → ⊥
    no_text Zero p h = empty_loads p h
    no_text One p h = empty_loads p h

    of_party : (slots : SharedNodes → Slots) → slots start ≡ start.referee_slots → Traced slots (start ∷ [])
    of_party slots e = record {
      text = λ past k slot p h. elim (cases_in start past [] k) [
        | inl is ↦ absurd (no_text slot p (subst (λ (x : Slots). IsSavedText p (bytes_in x slot)) (ap slots (sym is) ∙ e) h))
        | inr none ↦ absurd (none_in past none)
      ];
      none = (
        start,
        head_in start [],
        subst (λ (x : Slots). SlotsRestore x.zero x.one None) (sym e) (record { first = None; second = None; first_loads = empty_loads; second_loads = empty_loads; is_newer = refl }),
      );
    }

pub remembers_slots : {earlier later : Earlier} (m : SharedNodes) (inv : NodesInv earlier m)
    → ((found : Option SavedParts) → later.referee found → earlier.referee found ⊎ SlotsRestore m.referee_slots.zero m.referee_slots.one found)
    → ((q : Player) (found : Option SavedParts) → later.seat q found → earlier.seat q found ⊎ SlotsRestore (slots_of m q).zero (slots_of m q).one found) → NodesInv later m
remembers_slots {earlier} {later} m inv of_referee of_seat = record {
  restorable = inv.restorable;
  inv = remembers (law_of m inv) inv.inv
      (λ found w. elim (of_referee found w) [
        | inl k ↦ inl k
        | inr restore ↦ inr (restores_once m.referee_slots.zero m.referee_slots.one found inv.restorable.referee restore (inv.inv).base.referee.slots.written.restore)
      ])
      (λ q found w. at_seat q found (of_seat q found w));
  referees = inv.referees;
  seats = inv.seats;
  watching = inv.watching;
}
  where
    at_seat : (q : Player) (found : Option SavedParts) → earlier.seat q found ⊎ SlotsRestore (slots_of m q).zero (slots_of m q).one found
        → earlier.seat q found ⊎ (found ≡ (stored_of (law_of m inv) q).restorable)
    at_seat q found (inl k) = inl k
    at_seat X found (inr restore) = inr (restores_once m.x_slots.zero m.x_slots.one found inv.restorable.x restore (inv.inv).base.x.slots.written.restore)
    at_seat O found (inr restore) = inr (restores_once m.o_slots.zero m.o_slots.one found inv.restorable.o restore (inv.inv).base.o.slots.written.restore)

-- this moment is one of those so far
pub remembers_moment : (moments : List SharedNodes) (m : SharedNodes) → NodesInv (earlier_nodes moments) m → NodesInv (earlier_nodes (m ∷ moments)) m
remembers_moment moments m inv =
    remembers_slots m inv
    (λ found w. elim (cases_in m w.0 moments w.1) [
      | inl e ↦ inr (subst (λ (x : SharedNodes). SlotsRestore x.referee_slots.zero x.referee_slots.one found) (sym e) w.2)
      | inr k ↦ inl (w.0, k, w.2)
    ])
    (λ q found w. elim (cases_in m w.0 moments w.1) [
      | inl e ↦ inr (subst (λ (x : SharedNodes). SlotsRestore (slots_of x q).zero (slots_of x q).one found) (sym e) w.2)
      | inr k ↦ inl (w.0, k, w.2)
    ])
