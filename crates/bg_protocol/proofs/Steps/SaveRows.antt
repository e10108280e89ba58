-- A save is a row of the protocol.
use Rattle.std.specs.Prelude.{◌≡◌, ℕ, List, Option, Some, None, IfSome}
use Rattle.std.proofs.Common.{refl, sym, ◌∙◌, ap, ap₂, subst}
use Rattle.bg_board.specs.declared.players.Player.{Player}
use Rattle.bg_board.specs.declared.players.Player.TheVariants.{X, O}
use Rattle.bg_match.specs.declared.actions.Action.{Action}
use Rattle.bg_match.specs.declared.entries.Entry.{Entry}
use Rattle.bg_match.specs.Terms.{Terms}
use Rattle.bg_wire.specs.Saved.SlotLaws.{Slots}
use Rattle.bg_wire.specs.Saved.Restoring.{SlotsRestore}
use Rattle.bg_wire.specs.Parties.{party_of}
use Rattle.bg_wire.specs.Saved.SavedText.{SavedParts}
use Rattle.bg_wire.specs.Entries.Codes.{referee}
use Rattle.bg_referee.specs.Referee.{RefereeView, referee_after_save}
use Rattle.bg_party.specs.Views.{SeatView, seat_after_save}
use Rattle.bg_protocol.specs.declared.events.Event.TheVariants as events
use Rattle.bg_protocol.specs.declared.events.Outcome.{Outcome}
use Rattle.bg_protocol.specs.declared.events.Outcome.TheVariants as outcomes
use Rattle.bg_protocol.specs.declared.roles.Role.TheVariants as roles
use Rattle.bg_protocol.specs.Worlds.WorldState.{CoresMatch, RefereeMatches, Restorable, SeatMatches, SeatSide, referee_state, restorable_of, seat_state, protocol_state, with_restorable}
use Rattle.bg_protocol.specs.Protocol.SaveStep.{RefereeSaveStep, SaveStep, SeatSaveStep, to_save_referee, to_save_seat}
use Rattle.bg_protocol.specs.Worlds.Calls.{SaveCalls, referee_parts, seat_parts}
use Rattle.bg_protocol.specs.Worlds.Views.{KeeperView, WorldView, seat_core, seat_keeper, with_seat_core, with_seat_keeper}
use Rattle.bg_protocol.specs.Devices.KeeperCalls.{SaveCallsAt}
use Rattle.bg_protocol.specs.Protocol.Frames.{IfUp}
use Rattle.bg_protocol.specs.Protocol.State.{SeatState}
use Rattle.bg_protocol.specs.Protocol.Slots.{next_number}
use Rattle.bg_protocol.proofs.Protocol.Saving.{SlotsOk, number_after}
use Rattle.bg_protocol.proofs.Protocol.Invariant.{Inv}
use Rattle.bg_protocol.proofs.Steps.Sides.{StepsTo, goes_at, seat_side, seat_saves, slots_of_seat, seat_stays, down_row}
use Rattle.bg_protocol.proofs.Steps.SaveCases.{IsSaved, written, torn, spent, no_memory, is_saved}

-- ---- what a core saves is what the protocol saves

make_parts : ℕ → Option (ℕ × Action) → List Entry → ℕ → Terms → ℕ → SavedParts
make_parts party claim entries id terms save = record {
  party = party;
  id = id;
  terms = terms;
  save = save;
  claim = claim;
  entries = entries;
}

same_parts : (party : ℕ) (claim : Option (ℕ × Action)) (entries : List Entry) (id id' : ℕ) (terms terms' : Terms)
    (save save' : ℕ)
    → id ≡ id' → terms ≡ terms' → save ≡ save'
    → make_parts party claim entries id terms save ≡ make_parts party claim entries id' terms' save'
same_parts party claim entries id id' terms terms' save save' e f g =
    ap₂ (λ (a : ℕ) (b : Terms). make_parts party claim entries a b save) e f
    ∙ ap (λ (n : ℕ). make_parts party claim entries id' terms' n) g

same_referee_parts : (w : WorldView) (c : Restorable) (r : RefereeView) → RefereeMatches w.id w.terms c.referee r
    → referee_parts r ≡ to_save_referee (protocol_state (record w { referee = Some r }) c)
unfolding make_parts
same_referee_parts w c r fits =
    same_parts referee None r.log.entries r.log.id w.id r.log.terms w.terms r.next_save
    (next_number c.referee) fits.log.0 fits.log.1 fits.next

same_seat_parts : (id : ℕ) (terms : Terms) (q : Player) (slots : Slots) (found : Option SavedParts) (s : SeatView)
    → SeatMatches id terms q found s
    → seat_parts s ≡ to_save_seat id terms q (seat_state (Some s) slots found)
unfolding make_parts
same_seat_parts id terms q slots found s fits =
    let log = s.follower.log in
    ap (λ (p : Player). make_parts (party_of p) s.claim log.entries log.id log.terms s.next_save) fits.sits_for
    ∙ same_parts (party_of q) s.claim log.entries log.id id log.terms terms s.next_save
    (next_number found) fits.log.0 fits.log.1 fits.next

-- ---- the referee

-- what comes of a save of the referee: its core, and its slots
abbrev RefereeSaved : WorldView → Restorable → RefereeView → Outcome → Slots → Option RefereeView → Type 0
RefereeSaved w c r o slots s =
    (found : Option SavedParts)
    × RefereeSaveStep (protocol_state (record w { referee = Some r }) c) o
    (record (protocol_state w c) { referee = referee_state s slots found })
    × SlotsRestore slots.zero slots.one found × IfSome s (RefereeMatches w.id w.terms found)

module _ (w : WorldView) (c : Restorable) (r : RefereeView) (fits : RefereeMatches w.id w.terms c.referee r)
    (ok : SlotsOk w.id w.terms referee w.referee_keeper.slots c.referee) where
  to_save : SavedParts
  to_save = to_save_referee (protocol_state (record w { referee = Some r }) c)

  stays : (x o : Outcome) (slots : Slots) (s : Option RefereeView)
      → RefereeSaveStep (protocol_state (record w { referee = Some r }) c) x (protocol_state (record w { referee = Some r }) c)
      → o ≡ x → slots ≡ w.referee_keeper.slots → s ≡ Some r → RefereeSaved w c r o slots s
  stays x o slots s row e f g =
      subst (λ (y : Outcome). RefereeSaved w c r y slots s) (sym e)
      (subst (λ (y : Slots). RefereeSaved w c r x y s) (sym f)
      (subst (λ (y : Option RefereeView). RefereeSaved w c r x w.referee_keeper.slots y) (sym g)
      (c.referee, row, ok.written.restore, fits)))

  referee_saved : (o : Outcome) (slots : Slots) (s : Option RefereeView)
      → IsSaved to_save w.referee_keeper.slots r (referee_after_save r to_save.save) o slots s
      → RefereeSaved w c r o slots s
  unfolding to_save
  referee_saved o slots s (written e f writes) =
      subst (λ (x : Outcome). RefereeSaved w c r x slots s) (sym e)
      (subst (λ (y : Option RefereeView). RefereeSaved w c r (outcomes.Saved (next_number c.referee)) slots y)
      (sym f) (
        Some (to_save_referee (protocol_state (record w { referee = Some r }) c)),
        (refl, (slots, Some (to_save_referee (protocol_state (record w { referee = Some r }) c)), writes, refl)),
        writes.after.restore,
        record { log = fits.log; next = number_after (next_number c.referee) },
      ))
  referee_saved o slots s (torn left e f leaves) =
      subst (λ (x : Outcome). RefereeSaved w c r x slots s) (sym e)
      (subst (λ (y : Option RefereeView). RefereeSaved w c r outcomes.SaveFault slots y) (sym f)
      (left, (slots, left, leaves, refl), leaves.after.restore, tt))
  referee_saved o slots s (spent e f g) = stays outcomes.SavesSpent o slots s refl e f g
  referee_saved o slots s (no_memory e f g) = stays outcomes.Memory o slots s refl e f g

  save_referee : (honest : Type 0) → honest → (o : Outcome) (k : KeeperView) (s : Option RefereeView)
      → SaveCallsAt referee_parts referee_after_save honest w.referee_keeper (Some r) o k s
      → RefereeSaved w c r o k.slots s
  unfolding to_save
  save_referee honest is_honest o k s h =
      referee_saved o k.slots s (is_saved referee_parts referee_after_save honest is_honest r w.id w.terms referee w.referee_keeper c.referee ok to_save
      (same_referee_parts w c r fits) (record { party = refl; id = refl; terms = refl }) refl o k s h)

pub save_referee_goes : (w : WorldView) (c : Restorable) (honest : Type 0) → honest → (o : Outcome)
    (new : WorldView)
    → CoresMatch w c → Inv (protocol_state w c)
    → SaveCalls honest w roles.Referee o new → StepsTo w c (events.Save 0) o new
save_referee_goes w c honest is_honest o new fits inv h = at w.referee fits inv h
  where
    at : (r : Option RefereeView) → CoresMatch (record w { referee = r }) c
        → Inv (protocol_state (record w { referee = r }) c)
        → SaveCalls honest (record w { referee = r }) roles.Referee o new
        → StepsTo (record w { referee = r }) c (events.Save 0) o new
    at None f i k =
        let same : record w { referee_keeper = k.0; referee = k.1 } ≡ record w { referee = None } =
        ap₂ (λ (l : KeeperView) (s : Option RefereeView). record w {
          referee_keeper = l;
          referee = s;
        }) k.2.1 k.2.2 in
        goes_at (record w { referee = None }) c (events.Save 0) o outcomes.Down new
        (record w { referee = None }) k.2.0 (k.3 ∙ same)
        (record { restorable = c; step = (refl, refl); cores = f })
    at (Some r) f i k =
        let t = save_referee w c r f.referee.1 i.referee.slots honest is_honest o k.0 k.1 k.2 in
        goes_at (record w { referee = Some r }) c (events.Save 0) o o new
        (record w { referee_keeper = k.0; referee = k.1 }) refl k.3
        (record {
          restorable = record c { referee = t.0 };
          step = t.1;
          cores = record { referee = (t.2, t.3); x = f.x; o = f.o; watchers = f.watchers };
        })

-- ---- a seat

-- the row of a seat's save, between its states
abbrev SaveRow : ℕ → Terms → Player → Outcome → SeatState → SeatState → Type 0
SaveRow id terms q o old new = IfUp old.up old o new (SeatSaveStep id terms q o old new)

-- what comes of a save of a seat: its core, and its slots
abbrev SeatSaved : ℕ → Terms → Player → SeatState → Outcome → Slots → Option SeatView → Type 0
SeatSaved id terms q old o slots s =
    (found : Option SavedParts) × SeatSaveStep id terms q o old (seat_state s slots found)
    × (SlotsRestore slots.zero slots.one found × IfSome s (SeatMatches id terms q found))

module _ (id : ℕ) (terms : Terms) (q : Player) (old : KeeperView) (c : Option SavedParts) (r : SeatView)
    (fits : SeatMatches id terms q c r)
    (ok : SlotsOk id terms (party_of q) old.slots c) where
  before : SeatState
  before = seat_state (Some r) old.slots c

  seat_stays_up : (x o : Outcome) (slots : Slots) (s : Option SeatView) → SeatSaveStep id terms q x before before
      → o ≡ x → slots ≡ old.slots → s ≡ Some r → SeatSaved id terms q before o slots s
  unfolding before
  seat_stays_up x o slots s row e f g =
      subst (λ (y : Outcome). SeatSaved id terms q (seat_state (Some r) old.slots c) y slots s) (sym e)
      (subst (λ (y : Slots). SeatSaved id terms q (seat_state (Some r) old.slots c) x y s) (sym f)
      (subst (λ (y : Option SeatView). SeatSaved id terms q (seat_state (Some r) old.slots c) x old.slots y) (sym g)
      (c, row, (ok.written.restore, fits))))

  seat_saved : (o : Outcome) (slots : Slots) (s : Option SeatView)
      → IsSaved (to_save_seat id terms q before) old.slots r (seat_after_save r (next_number c)) o slots s
      → SeatSaved id terms q before o slots s
  unfolding before
  seat_saved o slots s (written e f writes) =
      subst (λ (x : Outcome). SeatSaved id terms q (seat_state (Some r) old.slots c) x slots s) (sym e)
      (subst (λ (y : Option SeatView). SeatSaved id terms q (seat_state (Some r) old.slots c)
      (outcomes.Saved (next_number c)) slots y) (sym f) (
        Some (to_save_seat id terms q (seat_state (Some r) old.slots c)),
        (refl, (slots, Some (to_save_seat id terms q (seat_state (Some r) old.slots c)), writes, refl)),
        (
          writes.after.restore,
          record {
            sits_for = fits.sits_for;
            log = fits.log;
            next = number_after (next_number c);
          },
        ),
      ))
  seat_saved o slots s (torn left e f leaves) =
      subst (λ (x : Outcome). SeatSaved id terms q (seat_state (Some r) old.slots c) x slots s) (sym e)
      (subst (λ (y : Option SeatView). SeatSaved id terms q
      (seat_state (Some r) old.slots c) outcomes.SaveFault slots y) (sym f)
      (left, (slots, left, leaves, refl), (leaves.after.restore, tt)))
  seat_saved o slots s (spent e f g) = seat_stays_up outcomes.SavesSpent o slots s refl e f g
  seat_saved o slots s (no_memory e f g) = seat_stays_up outcomes.Memory o slots s refl e f g

  save_seat : (honest : Type 0) → honest → (o : Outcome) (k : KeeperView) (s : Option SeatView)
      → SaveCallsAt seat_parts seat_after_save honest old (Some r) o k s
      → SeatSaved id terms q (seat_state (Some r) old.slots c) o k.slots s
  unfolding before
  save_seat honest is_honest o k s h =
      seat_saved o k.slots s (is_saved seat_parts seat_after_save honest is_honest r id terms (party_of q) old c ok
      (to_save_seat id terms q (seat_state (Some r) old.slots c)) (same_seat_parts id terms q old.slots c r fits)
      (record { party = refl; id = refl; terms = refl }) refl o k s h)

same_world : (w : WorldView) (q : Player) (s : Option SeatView) (k : KeeperView) → s ≡ seat_core w q
    → k ≡ seat_keeper w q → with_seat_keeper (with_seat_core w q s) q k ≡ w
same_world w X s k e f = ap₂ (λ (a : Option SeatView) (b : KeeperView). record w { x = a; x_keeper = b }) e f
same_world w O s k e f = ap₂ (λ (a : Option SeatView) (b : KeeperView). record w { o = a; o_keeper = b }) e f

pub save_seat_goes : (w : WorldView) (c : Restorable) (honest : Type 0) → honest
    → (q : Player) (o : Outcome) (new : WorldView) → CoresMatch w c → Inv (protocol_state w c)
    → SaveCalls honest w (roles.Seat q) o new
    → (d : Restorable) × SaveStep (protocol_state w c) (roles.Seat q) o (protocol_state new d) × CoresMatch new d
save_seat_goes w c honest is_honest q o new fits inv h = at (seat_core w q) (seat_side w c q fits) refl h.2
  where
    at : (s : Option SeatView) → SeatSide w.id w.terms q s (seat_keeper w q) (restorable_of c q) → seat_core w q ≡ s
        → SaveCallsAt seat_parts seat_after_save honest (seat_keeper w q) s o h.0 h.1
        → (d : Restorable) × SaveStep (protocol_state w c) (roles.Seat q) o (protocol_state new d) × CoresMatch new d
    at None side is k =
        subst (λ (x : Outcome). (d : Restorable) × SaveStep (protocol_state w c) (roles.Seat q) x (protocol_state new d)
        × CoresMatch new d) (sym k.0)
        (subst (λ (n : WorldView). (d : Restorable)
        × SaveStep (protocol_state w c) (roles.Seat q) outcomes.Down (protocol_state n d) × CoresMatch n d)
        (sym (h.3 ∙ same_world w q h.1 h.0 (k.2 ∙ sym is) k.1))
        (c, seat_stays w c q (SaveRow w.id w.terms q outcomes.Down) is (λ s down. down_row s.up s _ down), fits))
    at (Some s) side is k =
        let t = save_seat w.id w.terms q (seat_keeper w q) (restorable_of c q) s side.1
        (slots_of_seat w c q inv) honest is_honest o h.0 h.1 k in
        let moved = seat_saves w c q h.1 h.0 t.0 (SaveRow w.id w.terms q o) fits
        (subst (λ (x : Option SeatView). SaveRow w.id w.terms q o
        (seat_state x (seat_keeper w q).slots (restorable_of c q)) (seat_state h.1 (h.0).slots t.0))
        (sym is) t.1) t.2 in
        subst (λ (n : WorldView). (d : Restorable) × SaveStep (protocol_state w c) (roles.Seat q) o (protocol_state n d)
        × CoresMatch n d) (sym h.3) (with_restorable c q t.0, moved.0, moved.1)
