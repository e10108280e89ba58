-- Each call of a node keeps what holds of nodes: the referee's.
use Rattle.std.specs.Prelude.{◌≡◌, ℕ, ◌+◌, ◌-◌, ⊤, true, false, Option, Some, None, List, [], ◌∷◌, ◌++◌, Contains, length}
use Rattle.std.proofs.Common.{refl, sym, ◌∙◌, ap, subst, inr, arith}
use Rattle.std.proofs.lemmas.List.{append-nil}
use Rattle.std.proofs.lemmas.Option.{same_Some}
use Rattle.bg_board.specs.declared.players.Player.{Player}
use Rattle.bg_board.specs.declared.players.Player.TheVariants.{X, O}
use Rattle.bg_match.specs.Terms.{Terms}
use Rattle.bg_referee.specs.Referee.{RefereeView, referee_after_save}
use Rattle.bg_party.specs.Views.{SeatView, WatcherView}
use Rattle.bg_wire.specs.Parties.{party_of}
use Rattle.bg_wire.specs.Entries.Codes.{first_watcher}
use Rattle.bg_wire.specs.Saved.Restoring.{SlotsRestore}
use Rattle.bg_wire.specs.Saved.SavedText.{SavedParts}
use Rattle.bg_wire.specs.Saved.SlotLaws.{Slots}
use Rattle.bg_wire.specs.declared.packets.Datagram.{Datagram}
use Rattle.bg_protocol.specs.Protocol.SaveStep.{to_save_referee}
use Rattle.bg_protocol.specs.Protocol.State.{restored_referee}
use Rattle.bg_protocol.specs.Worlds.Nodes.{RefereeNodeDues, RefereeNodeRestarts, RefereeNodeSaves, RefereeNodeTakes, RefereeNodeTicks, RefereeNodeView}
use Rattle.bg_protocol.specs.Worlds.Views.{KeeperView, LinkView}
use Rattle.bg_protocol.specs.Worlds.WorldState.{Restorable}
use Rattle.bg_protocol.specs.declared.events.Event.TheVariants as events
use Rattle.bg_protocol.specs.declared.events.Outcome.{Outcome}
use Rattle.bg_protocol.specs.declared.events.Outcome.TheVariants as outcomes
use Rattle.bg_protocol.proofs.Protocol.EarlyEntries.{shown_more}
use Rattle.bg_protocol.proofs.Protocol.Growth.{step_grows}
use Rattle.bg_fences.specs.SharedMatches.{SharedMatch, Becomes, seen_by_referee}
use Rattle.bg_fences.specs.ProcessCalls.{RefereeGoes}
use Rattle.bg_fences.specs.SharedNodes.{SharedNodes, IsFencedAt, cores_of, all_parties, referee_number, held_by, stored_in, process_of_referee, processes_of}
use Rattle.bg_fences.specs.NodeActs.{referee_with}
use Rattle.bg_fences.proofs.Invariant.{Earlier, FencedInv}
use Rattle.bg_fences.proofs.RefereeCalls as at_referee
use Rattle.bg_fences.proofs.NodeLists.{held_becomes, in_held, each_core, each_held}
use Rattle.bg_fences.proofs.Lists.{was_in}
use Rattle.bg_fences.proofs.RefereeNodes.{IsCoreOf, state_of, due_told, tick_row, take_row, Comes, whole, part, refused, nothing_saved, saves_to, ComesBack, up, down, restarts_to, is_newest}
use Rattle.bg_fences.proofs.SeatNodes.{IsSeatCoreOf, IsWatcherCoreOf}

pub record NodesInv (earlier : Earlier) (m : SharedNodes) : Type 0 where
  pub restorable : Restorable
  pub inv : FencedInv earlier (processes_of m restorable)
  pub referees : (c : RefereeView) → Contains m.referees (Some c) → IsCoreOf m.id m.terms (c.next_save - 1) c
  pub seats : (q : Player) (s : SeatView) → Contains (cores_of m q) (Some s) → IsSeatCoreOf m.id m.terms m.sent q s
  pub watching : (f : WatcherView) → Contains m.watching f → (index : ℕ) × IsWatcherCoreOf m.id m.terms m.sent index f

abbrev pub law_of : {earlier : Earlier} (m : SharedNodes) → NodesInv earlier m → SharedMatch
law_of {earlier} m inv = processes_of m inv.restorable

-- ---- what was shown stays known

pub seat_knows : (id : ℕ) (terms : Terms) (sent new out : List Datagram) (q : Player) (s : SeatView) → new ≡ sent ++ out → IsSeatCoreOf id terms sent q s → IsSeatCoreOf id terms new q s
seat_knows id terms sent new out q s e h = record {
  sits_for = h.sits_for;
  log = h.log;
  numbered = h.numbered;
  early = shown_more id terms sent new out (party_of q) s.follower e h.early;
}

pub watcher_knows : (id : ℕ) (terms : Terms) (sent new out : List Datagram) (index : ℕ) (f : WatcherView) → new ≡ sent ++ out → IsWatcherCoreOf id terms sent index f → IsWatcherCoreOf id terms new index f
watcher_knows id terms sent new out index f e h = record {
  party = h.party;
  log = h.log;
  early = shown_more id terms sent new out (first_watcher + index) f.follower e h.early;
}

-- ---- a call of the referee's node

abbrev RefereeAfter : SharedNodes → List (Option RefereeView) → Slots → List Datagram → SharedNodes
RefereeAfter m cores slots sent = record m { referees = cores; referee_slots = slots; sent = sent }

finish : {earlier : Earlier} (m : SharedNodes) (inv : NodesInv earlier m) (core d : Option RefereeView) (cores : List (Option RefereeView)) (slots : Slots) (found : Option SavedParts) (sent out : List Datagram)
    → Becomes m.referees core (d ∷ []) cores → ((c : RefereeView) → d ≡ Some c → IsCoreOf m.id m.terms (c.next_save - 1) c) → sent ≡ m.sent ++ out
    → FencedInv earlier (record (law_of m inv) { referees = held_by process_of_referee cores; referee = stored_in slots found; sent = sent }) → NodesInv earlier (RefereeAfter m cores slots sent)
finish {earlier} m inv core d cores slots found sent out b new e after = record {
  restorable = record (inv.restorable) { referee = found };
  inv = after;
  referees = each_core (λ (c : RefereeView). IsCoreOf m.id m.terms (c.next_save - 1) c) m.referees core d cores b inv.referees new;
  seats = seats;
  watching = λ f k. let w = inv.watching f k in (w.0, watcher_knows m.id m.terms m.sent sent out w.0 f e w.1);
}
  where
    seats : (q : Player) (s : SeatView) → Contains (cores_of (RefereeAfter m cores slots sent) q) (Some s) → IsSeatCoreOf m.id m.terms sent q s
    seats X s k = seat_knows m.id m.terms m.sent sent out X s e (inv.seats X s k)
    seats O s k = seat_knows m.id m.terms m.sent sent out O s e (inv.seats O s k)

-- the slots stay
same_slots : {earlier : Earlier} (m : SharedNodes) (inv : NodesInv earlier m) (core d : Option RefereeView) (cores : List (Option RefereeView)) (slots : Slots) (sent out : List Datagram)
    → Becomes m.referees core (d ∷ []) cores → ((c : RefereeView) → d ≡ Some c → IsCoreOf m.id m.terms (c.next_save - 1) c) → sent ≡ m.sent ++ out → slots ≡ m.referee_slots
    → FencedInv earlier (record (law_of m inv) { referees = held_by process_of_referee cores; sent = sent }) → NodesInv earlier (RefereeAfter m cores slots sent)
same_slots {earlier} m inv core d cores slots sent out b new e s after =
    finish m inv core d cores slots inv.restorable.referee sent out b new e
    (subst (λ (x : Slots). FencedInv earlier (record (law_of m inv) { referees = held_by process_of_referee cores; referee = stored_in x inv.restorable.referee; sent = sent })) (sym s) after)

-- nothing was sent or written: the node is down, or up with a core in order
rests : {earlier : Earlier} (m : SharedNodes) (inv : NodesInv earlier m) (core d : Option RefereeView) (cores : List (Option RefereeView)) (slots : Slots) (sent : List Datagram)
    → Becomes m.referees core (d ∷ []) cores → slots ≡ m.referee_slots → sent ≡ m.sent
    → ((c : RefereeView) → d ≡ Some c → at_referee.IsInOrder (law_of m inv) (process_of_referee c) × IsCoreOf m.id m.terms (c.next_save - 1) c)
    → NodesInv earlier (RefereeAfter m cores slots sent)
rests {earlier} m inv core d cores slots sent b s e new =
    let S = law_of m inv in
    same_slots m inv core d cores slots sent [] b (λ c is. (new c is).1) (e ∙ sym (append-nil m.sent)) s
    (subst (λ (l : List Datagram). FencedInv earlier (record S { referees = held_by process_of_referee cores; sent = l })) (sym e)
    (at_referee.with_referees S (held_by process_of_referee cores) inv.inv
    (each_held process_of_referee (at_referee.IsInOrder S) m.referees core d cores b (inv.inv).referees (λ c is. (new c is).0))))

is_down : {earlier : Earlier} (m : SharedNodes) (inv : NodesInv earlier m) (core d : Option RefereeView) (cores : List (Option RefereeView)) (slots : Slots) (sent : List Datagram)
    → Becomes m.referees core (d ∷ []) cores → slots ≡ m.referee_slots → sent ≡ m.sent → d ≡ None → NodesInv earlier (RefereeAfter m cores slots sent)
is_down {earlier} m inv core d cores slots sent b s e none = rests m inv core d cores slots sent b s e (λ c is. absurd (clash c (sym none ∙ is)))
  where
    clash : (c : RefereeView) → ◌≡◌ {A = Option RefereeView} None (Some c) → ⊥
    clash c k = cc

-- a core that acted: its number stays
module _ {earlier : Earlier} (m : SharedNodes) (inv : NodesInv earlier m) (c c' : RefereeView) (cores : List (Option RefereeView)) (b : Becomes m.referees (Some c) (Some c' ∷ []) cores)
    (fits : IsCoreOf m.id m.terms (c.next_save - 1) c') where
  goes_on : (sent : List Datagram) → RefereeGoes (law_of m inv) (process_of_referee c) (state_of (law_of m inv) sent c') (record (law_of m inv) { referees = held_by process_of_referee cores; sent = sent })
  goes_on sent =
      let same : c'.next_save - 1 ≡ c.next_save - 1 = omega (fits.numbered, arith) in (
        held_by process_of_referee cores,
        subst (λ (l : ℕ). Becomes (law_of m inv).referees (process_of_referee c) (record { log = c'.log.entries; saved = c'.saved; last_save = l } ∷ []) (held_by process_of_referee cores)) same
            (held_becomes process_of_referee m.referees c (Some c') cores b),
        refl,
      )

  own : (x : RefereeView) → Some c' ≡ Some x → IsCoreOf m.id m.terms (x.next_save - 1) x
  own x e =
      let same : c' ≡ x = same_Some c' x e in
      subst (λ (y : RefereeView). IsCoreOf m.id m.terms (y.next_save - 1) y) same (record { log = fits.log; numbered = omega (fits.numbered, arith) })

the_core : {earlier : Earlier} (m : SharedNodes) (inv : NodesInv earlier m) (c : RefereeView) (d : Option RefereeView) (cores : List (Option RefereeView)) → Becomes m.referees (Some c) (d ∷ []) cores → IsCoreOf m.id m.terms (c.next_save - 1) c
the_core {earlier} m inv c d cores b = inv.referees c (was_in m.referees (Some c) (d ∷ []) cores b)

-- what is told of a node afterwards, by what it comes to
node_is : {earlier : Earlier} (m : SharedNodes) (cores : List (Option RefereeView)) (sent : List Datagram) (core : Option RefereeView) (after now : RefereeNodeView) → after ≡ now
    → (Becomes m.referees core (now.core ∷ []) cores → NodesInv earlier (RefereeAfter m cores m.referee_slots sent))
    → Becomes m.referees core (after.core ∷ []) cores → NodesInv earlier (RefereeAfter m cores m.referee_slots sent)
node_is {earlier} m cores sent core after now e f =
    subst (λ (x : RefereeNodeView). Becomes m.referees core (x.core ∷ []) cores → NodesInv earlier (RefereeAfter m cores m.referee_slots sent)) (sym e) f

pub due_acts : {earlier : Earlier} (m : SharedNodes) (inv : NodesInv earlier m) (word : ℕ) (o : Outcome) (core : Option RefereeView) (after : RefereeNodeView) (cores : List (Option RefereeView))
    → RefereeNodeDues (referee_with m core) word o after
    → Becomes m.referees core (after.core ∷ []) cores → NodesInv earlier (RefereeAfter m cores m.referee_slots m.sent)
due_acts {earlier} m inv word o None after cores h =
    node_is m cores m.sent None after (referee_with m None) h.1 (λ b. is_down m inv None None cores m.referee_slots m.sent b refl refl refl)
due_acts {earlier} m inv word o (Some c) after cores h =
    node_is m cores m.sent (Some c) after (referee_with m (Some h.1)) h.4
    (λ b.
    let S = law_of m inv in
    let t = due_told S (c.next_save - 1) word c h.1 h.0 (the_core m inv c (Some h.1) cores b) h.2 in
    let n = record S { referees = held_by process_of_referee cores; sent = m.sent } in
    same_slots m inv (Some c) (Some h.1) cores m.referee_slots m.sent [] b (own m inv c h.1 cores b t.1) (sym (append-nil m.sent)) refl
    (at_referee.due S (process_of_referee c) word (outcomes.Due h.0) (state_of S m.sent h.1) n inv.inv t.0 (goes_on m inv c h.1 cores b t.1 m.sent)))

-- how the list of datagrams grew
abbrev Grown : List Datagram → List Datagram → Type 0
Grown old new = (out : List Datagram) × (new ≡ old ++ out)

pub tick_acts : {earlier : Earlier} (m : SharedNodes) (inv : NodesInv earlier m) (o : Outcome) (core : Option RefereeView) (old new : LinkView) (after : RefereeNodeView) (cores : List (Option RefereeView))
    → old.sent ≡ m.sent → RefereeNodeTicks ⊤ (all_parties m) old (referee_with m core) o new after
    → Becomes m.referees core (after.core ∷ []) cores → NodesInv earlier (RefereeAfter m cores m.referee_slots new.sent)
tick_acts {earlier} m inv o None old new after cores e h =
    node_is m cores new.sent None after (referee_with m None) h.2 (λ b. is_down m inv None None cores m.referee_slots new.sent b refl (ap (λ (x : LinkView). x.sent) h.1 ∙ e) refl)
tick_acts {earlier} m inv o (Some c) old new after cores e h =
    node_is m cores new.sent (Some c) after (referee_with m (Some h.0)) h.2
    (λ b.
    let S = law_of m inv in
    let t = tick_row S (c.next_save - 1) c h.0 old new o (the_core m inv c (Some h.0) cores b) e h.1 in
    let n = record S { referees = held_by process_of_referee cores; sent = new.sent } in
    let grown : Grown m.sent new.sent = step_grows (seen_by_referee S (process_of_referee c)) (events.Tick 0) o (state_of S new.sent h.0) t.0 in
    same_slots m inv (Some c) (Some h.0) cores m.referee_slots new.sent grown.0 b (own m inv c h.0 cores b t.1) grown.1 refl
    (at_referee.ticks S (process_of_referee c) o (state_of S new.sent h.0) n inv.inv t.0 (goes_on m inv c h.0 cores b t.1 new.sent)))

pub take_acts : {earlier : Earlier} (m : SharedNodes) (inv : NodesInv earlier m) (pick word : ℕ) (o : Outcome) (core : Option RefereeView) (old new : LinkView) (after : RefereeNodeView) (cores : List (Option RefereeView))
    → old.sent ≡ m.sent → RefereeNodeTakes ⊤ (all_parties m) old (referee_with m core) pick word o new after
    → Becomes m.referees core (after.core ∷ []) cores → NodesInv earlier (RefereeAfter m cores m.referee_slots new.sent)
take_acts {earlier} m inv pick word o None old new after cores e h =
    node_is m cores new.sent None after (referee_with m None) h.2 (λ b. is_down m inv None None cores m.referee_slots new.sent b refl (ap (λ (x : LinkView). x.sent) h.1 ∙ e) refl)
take_acts {earlier} m inv pick word o (Some c) old new after cores e h =
    node_is m cores new.sent (Some c) after (referee_with m (Some h.0)) h.2
    (λ b.
    let S = law_of m inv in
    let t = take_row S (c.next_save - 1) word c (the_core m inv c (Some h.0) cores b) (inv.inv).base ⊤ tt pick o old new h.0 e h.1 in
    let n = record S { referees = held_by process_of_referee cores; sent = new.sent } in
    let grown : Grown m.sent new.sent = step_grows (seen_by_referee S (process_of_referee c)) (events.Take 0 pick word) o (state_of S new.sent h.0) t.0 in
    same_slots m inv (Some c) (Some h.0) cores m.referee_slots new.sent grown.0 b (own m inv c h.0 cores b t.1) grown.1 refl
    (at_referee.takes_packet S (process_of_referee c) word o (state_of S new.sent h.0) n inv.inv t.0 (goes_on m inv c h.0 cores b t.1 new.sent)))

pub save_acts : {earlier : Earlier} (m : SharedNodes) (inv : NodesInv earlier m) (o : Outcome) (core : Option RefereeView) (keeper new : KeeperView) (after : RefereeNodeView) (cores : List (Option RefereeView))
    → keeper.slots ≡ m.referee_slots → RefereeNodeSaves ⊤ keeper (referee_with m core) o new after
    → IsFencedAt keeper.slots (referee_number core) o new.slots
    → Becomes m.referees core (after.core ∷ []) cores → NodesInv earlier (RefereeAfter m cores new.slots m.sent)
save_acts {earlier} m inv o None keeper new after cores s h fence b =
    is_down m inv None after.core cores new.slots m.sent b (fence ∙ s) refl h.0.2
save_acts {earlier} m inv o (Some c) keeper new after cores s h fence b =
    at_place (saves_to (law_of m inv) (c.next_save - 1) c keeper new o after.core fits ((inv.inv).base.referee.slots) s h.0 fence)
  where
    fits : IsCoreOf m.id m.terms (c.next_save - 1) c
    fits = the_core m inv c after.core cores b

    ok : at_referee.IsInOrder (law_of m inv) (process_of_referee c)
    ok = (inv.inv).referees (process_of_referee c) (in_held process_of_referee m.referees c (was_in m.referees (Some c) (after.core ∷ []) cores b))

    moved : (d : Option RefereeView) (found : Option SavedParts) → after.core ≡ d → ((x : RefereeView) → d ≡ Some x → IsCoreOf m.id m.terms (x.next_save - 1) x)
        → FencedInv earlier (record (law_of m inv) { referees = held_by process_of_referee cores; referee = stored_in new.slots found }) → NodesInv earlier (RefereeAfter m cores new.slots m.sent)
    moved d found is own k =
        finish m inv (Some c) d cores new.slots found m.sent [] (subst (λ (x : Option RefereeView). Becomes m.referees (Some c) (x ∷ []) cores) is b) own (sym (append-nil m.sent)) k

    at_place : Comes (law_of m inv) c o new.slots after.core → NodesInv earlier (RefereeAfter m cores new.slots m.sent)
    at_place (whole next f g w) =
        moved (Some (referee_after_save c c.next_save)) (Some (to_save_referee (state_of (law_of m inv) m.sent c))) g
        (λ x is. subst (λ (y : RefereeView). IsCoreOf m.id m.terms (y.next_save - 1) y) (same_Some (referee_after_save c c.next_save) x is)
        (record { log = fits.log; numbered = omega arith }))
        (at_referee.saves (law_of m inv) (process_of_referee c) (outcomes.Saved c.next_save)
        (record (law_of m inv) { referees = held_by process_of_referee cores; referee = stored_in new.slots (Some (to_save_referee (state_of (law_of m inv) m.sent c))) }) inv.inv (
          record (seen_by_referee (law_of m inv) (process_of_referee c)) {
            referee = record {
              up = true;
              log = c.log.entries;
              saved = length c.log.entries;
              slots = new.slots;
              restorable = Some (to_save_referee (state_of (law_of m inv) m.sent c));
            };
          },
          held_by process_of_referee cores,
          is_newest (law_of m inv) c next,
          (next, (new.slots, Some (to_save_referee (state_of (law_of m inv) m.sent c)), w, refl)),
          subst (λ (l : ℕ). Becomes (held_by process_of_referee m.referees) (process_of_referee c) (record { log = c.log.entries; saved = length c.log.entries; last_save = l } ∷ []) (held_by process_of_referee cores)) (number c.next_save)
              (held_becomes process_of_referee m.referees c (Some (referee_after_save c c.next_save)) cores
              (subst (λ (x : Option RefereeView). Becomes m.referees (Some c) (x ∷ []) cores) g b)),
          refl,
        ))
      where
        number : (n : ℕ) → n + 1 - 1 ≡ n
        number n = omega arith
    at_place (part left next f g t) =
        moved None left g (λ x is. absurd (clash x is))
        (at_referee.saves (law_of m inv) (process_of_referee c) outcomes.SaveFault
        (record (law_of m inv) { referees = held_by process_of_referee cores; referee = stored_in new.slots left }) inv.inv (
          held_by process_of_referee cores,
          held_becomes process_of_referee m.referees c None cores (subst (λ (x : Option RefereeView). Becomes m.referees (Some c) (x ∷ []) cores) g b),
          inr (
            record (seen_by_referee (law_of m inv) (process_of_referee c)) { referee = restored_referee new.slots left false },
            is_newest (law_of m inv) c next,
            (new.slots, left, t, refl),
            refl,
          ),
        ))
      where
        clash : (x : RefereeView) → ◌≡◌ {A = Option RefereeView} None (Some x) → ⊥
        clash x k = cc
    at_place (refused f g t) = is_down m inv (Some c) after.core cores new.slots m.sent b t refl g
    at_place (nothing_saved t g f) =
        rests m inv (Some c) after.core cores new.slots m.sent b t refl
        (λ x is. subst (λ (y : RefereeView). at_referee.IsInOrder (law_of m inv) (process_of_referee y) × IsCoreOf m.id m.terms (y.next_save - 1) y) (same_Some c x (sym g ∙ is)) (ok, fits))

pub restart_acts : {earlier : Earlier} (m : SharedNodes) (inv : NodesInv earlier m) (o : Outcome) (core : Option RefereeView) (keeper new : KeeperView) (after : RefereeNodeView) (cores : List (Option RefereeView))
    → ((found : Option SavedParts) → SlotsRestore keeper.slots.zero keeper.slots.one found → earlier.referee found) → RefereeNodeRestarts ⊤ keeper (referee_with m core) o new after
    → Becomes m.referees core (after.core ∷ []) cores → NodesInv earlier (RefereeAfter m cores m.referee_slots m.sent)
restart_acts {earlier} m inv o core keeper new after cores was h b = at_place (restarts_to m.id m.terms keeper new o after.core h.0)
  where
    at_place : ComesBack m.id m.terms keeper.slots after.core → NodesInv earlier (RefereeAfter m cores m.referee_slots m.sent)
    at_place (up c found restore g is fits) =
        rests m inv core after.core cores m.referee_slots m.sent b refl refl
        (λ x k. subst (λ (y : RefereeView). at_referee.IsInOrder (law_of m inv) (process_of_referee y) × IsCoreOf m.id m.terms (y.next_save - 1) y) (same_Some c x (sym g ∙ k))
        (subst (at_referee.IsInOrder (law_of m inv)) (sym is) ((inv.inv).begun found (was found restore)), fits))
    at_place (down g) = is_down m inv core after.core cores m.referee_slots m.sent b refl refl g
