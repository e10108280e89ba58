-- How a change of one party of a world is a change of that party in the protocol's state.
use Rattle.std.specs.Prelude.{◌≡◌, ℕ, zero, suc, Bool, true, false, List, [], ◌∷◌, Option, Some, None, map, slice_get, slice_set, ◌⊎◌, option_map}
use Rattle.std.proofs.Common.{refl, sym, ap, subst, inl, inr}
use Rattle.std.proofs.lemmas.List.{map-set}
use Rattle.std.proofs.lemmas.Option.{slice_get-map, same_Some}
use Rattle.bg_board.specs.declared.players.Player.{Player}
use Rattle.bg_board.specs.declared.players.Player.TheVariants.{X, O}
use Rattle.bg_match.specs.Terms.{Terms}
use Rattle.bg_wire.specs.declared.packets.Datagram.{Datagram}
use Rattle.bg_wire.specs.Saved.SlotLaws.{Slots}
use Rattle.bg_wire.specs.Saved.SavedText.{SavedParts}
use Rattle.bg_wire.specs.Entries.Codes.{referee}
use Rattle.bg_wire.specs.Parties.{party_of}
use Rattle.bg_referee.specs.Referee.{RefereeView}
use Rattle.bg_party.specs.Views.{SeatView, WatcherView}
use Rattle.bg_protocol.specs.declared.events.Event.{Event}
use Rattle.bg_protocol.specs.declared.events.Outcome.{Outcome}
use Rattle.bg_protocol.specs.declared.events.Outcome.TheVariants as outcomes
use Rattle.bg_protocol.specs.Worlds.WorldState.{CoresMatch, Restorable, SeatSide, WatcherMatches, WatchersMatch, referee_state, restorable_of, seat_state, protocol_state, watcher_entries, with_restorable}
use Rattle.bg_protocol.specs.Worlds.Views.{KeeperView, LinkView, WorldView, seat_core, seat_keeper, with_seat_core, with_seat_keeper}
use Rattle.bg_protocol.specs.Protocol.Frames.{IfUp, SeatChanges}
use Rattle.bg_protocol.specs.Protocol.State.{SeatState, seat_in}
use Rattle.bg_protocol.specs.Protocol.Step.{Step}
use Rattle.bg_protocol.proofs.Protocol.Saving.{SlotsOk}
use Rattle.bg_protocol.proofs.Protocol.Invariant.{Inv}

-- From the state of the world, whose slots restore `c`, this is a step of the protocol, to the
-- state of the new world.
pub record StepsTo (w : WorldView) (c : Restorable) (event : Event) (result : Outcome)
    (new : WorldView) : Type 0 where
  pub restorable : Restorable
  pub step : Step (protocol_state w c) event result (protocol_state new restorable)
  pub cores : CoresMatch new restorable

-- what is told of an outcome and a world is told of equal ones
pub goes_at : (w : WorldView) (c : Restorable) (e : Event) (o p : Outcome) (new n : WorldView) → o ≡ p → new ≡ n
    → StepsTo w c e p n → StepsTo w c e o new
goes_at w c e o p new n h k g =
    subst (λ (x : Outcome). StepsTo w c e x new) (sym h) (subst (λ (x : WorldView). StepsTo w c e p x) (sym k) g)

pub seat_side : (w : WorldView) (c : Restorable) (q : Player) → CoresMatch w c
    → SeatSide w.id w.terms q (seat_core w q) (seat_keeper w q) (restorable_of c q)
seat_side w c X h = h.x
seat_side w c O h = h.o

-- a change of a seat's core, while the list of datagrams stays
pub seat_moves : (w : WorldView) (c : Restorable) (q : Player) (n : LinkView) (s : Option SeatView)
    (P : SeatState → SeatState → Type 0)
    → CoresMatch w c → n.sent ≡ w.link.sent
    → P (seat_state (seat_core w q) (seat_keeper w q).slots (restorable_of c q))
    (seat_state s (seat_keeper w q).slots (restorable_of c q))
    → SeatSide w.id w.terms q s (seat_keeper w q) (restorable_of c q)
    → SeatChanges (protocol_state w c) q (protocol_state (with_seat_core (record w { link = n }) q s) c)
    (P (seat_in (protocol_state w c) q))
    × CoresMatch (with_seat_core (record w { link = n }) q s) c
seat_moves w c X n s P fits same p side = (
  (
    seat_state s w.x_keeper.slots c.x,
    p,
    ap (λ (l : List Datagram). record (protocol_state w c) { x = seat_state s w.x_keeper.slots c.x; sent = l }) same,
  ),
  record { referee = fits.referee; x = side; o = fits.o; watchers = fits.watchers },
)
seat_moves w c O n s P fits same p side = (
  (
    seat_state s w.o_keeper.slots c.o,
    p,
    ap (λ (l : List Datagram). record (protocol_state w c) { o = seat_state s w.o_keeper.slots c.o; sent = l }) same,
  ),
  record { referee = fits.referee; x = fits.x; o = side; watchers = fits.watchers },
)

-- a change of a seat's core and keeper
pub seat_saves : (w : WorldView) (c : Restorable) (q : Player) (s : Option SeatView) (k : KeeperView)
    (found : Option SavedParts) (P : SeatState → SeatState → Type 0)
    → CoresMatch w c
    → P (seat_state (seat_core w q) (seat_keeper w q).slots (restorable_of c q)) (seat_state s k.slots found)
    → SeatSide w.id w.terms q s k found
    → SeatChanges (protocol_state w c) q (protocol_state (with_seat_keeper (with_seat_core w q s) q k)
    (with_restorable c q found)) (P (seat_in (protocol_state w c) q))
    × CoresMatch (with_seat_keeper (with_seat_core w q s) q k) (with_restorable c q found)
seat_saves w c X s k found P fits p side = (
  (seat_state s k.slots found, p, refl),
  record { referee = fits.referee; x = side; o = fits.o; watchers = fits.watchers },
)
seat_saves w c O s k found P fits p side = (
  (seat_state s k.slots found, p, refl),
  record { referee = fits.referee; x = fits.x; o = side; watchers = fits.watchers },
)

-- ---- watchers

pub get_set_watcher : (xs : List WatcherView) (i : ℕ) (v : WatcherView) (j : ℕ) (x : WatcherView)
    → slice_get (slice_set xs i v) j ≡ Some x → ((j ≡ i) × (x ≡ v)) ⊎ (slice_get xs j ≡ Some x)
get_set_watcher [] i v j x h = inr h
get_set_watcher (y ∷ ys) zero v zero x h = inl (refl, sym (same_Some v x h))
get_set_watcher (y ∷ ys) zero v (suc j) x h = inr h
get_set_watcher (y ∷ ys) (suc i) v zero x h = inr h
get_set_watcher (y ∷ ys) (suc i) v (suc j) x h = at (get_set_watcher ys i v j x h)
  where
    at : ((j ≡ i) × (x ≡ v)) ⊎ (slice_get ys j ≡ Some x) → ((suc j ≡ suc i) × (x ≡ v)) ⊎ (slice_get ys j ≡ Some x)
    at (inl p) = inl (ap suc p.0, p.1)
    at (inr p) = inr p

pub watchers_match : (id : ℕ) (terms : Terms) (watchers : List WatcherView) (i : ℕ) (f : WatcherView)
    → WatchersMatch id terms watchers → WatcherMatches id terms i f → WatchersMatch id terms
    (slice_set watchers i f)
watchers_match id terms watchers i f all one j g h = at (get_set_watcher watchers i f j g h)
  where
    at : ((j ≡ i) × (g ≡ f)) ⊎ (slice_get watchers j ≡ Some g) → WatcherMatches id terms j g
    at (inl p) =
        subst (λ (x : WatcherView). WatcherMatches id terms j x) (sym p.1)
        (subst (λ (n : ℕ). WatcherMatches id terms n f) (sym p.0) one)
    at (inr p) = all j g p

-- the record of a watcher
pub get_log : (watchers : List WatcherView) (i : ℕ)
    → slice_get (map watcher_entries watchers) i ≡ option_map watcher_entries (slice_get watchers i)
get_log watchers i = slice_get-map watcher_entries watchers i

pub set_log : (watchers : List WatcherView) (i : ℕ) (f : WatcherView)
    → map watcher_entries (slice_set watchers i f) ≡ slice_set (map watcher_entries watchers) i (watcher_entries f)
set_log watchers i f = map-set watcher_entries watchers i f

-- ---- a seat that is down

pub down_row : (b : Bool) (s : SeatState) (Q : Type 0) → b ≡ false → IfUp b s outcomes.Down s Q
down_row false s Q e = (refl, refl)
down_row true s Q e = absurd cc

seat_down : (s : Option SeatView) (slots : Slots) (found : Option SavedParts) → s ≡ None
    → (seat_state s slots found).up ≡ false
seat_down None slots found e = refl
seat_down (Some s) slots found e = absurd cc

-- nothing happens to it
pub seat_stays : (w : WorldView) (c : Restorable) (q : Player) (P : SeatState → SeatState → Type 0)
    → seat_core w q ≡ None
    → ((s : SeatState) → s.up ≡ false → P s s)
    → SeatChanges (protocol_state w c) q (protocol_state w c) (P (seat_in (protocol_state w c) q))
seat_stays w c X P none p = (
  seat_state w.x w.x_keeper.slots c.x,
  p (seat_state w.x w.x_keeper.slots c.x) (seat_down w.x w.x_keeper.slots c.x none),
  refl,
)
seat_stays w c O P none p = (
  seat_state w.o w.o_keeper.slots c.o,
  p (seat_state w.o w.o_keeper.slots c.o) (seat_down w.o w.o_keeper.slots c.o none),
  refl,
)

-- ---- the slots of the state are those of the keepers

pub slots_of_referee : (w : WorldView) (c : Restorable) → Inv (protocol_state w c)
    → SlotsOk w.id w.terms referee w.referee_keeper.slots c.referee
slots_of_referee w c inv = slots w.referee inv.referee.slots
  where
    slots : (r : Option RefereeView)
        → SlotsOk w.id w.terms referee (referee_state r w.referee_keeper.slots c.referee).slots
        (referee_state r w.referee_keeper.slots c.referee).restorable
        → SlotsOk w.id w.terms referee w.referee_keeper.slots c.referee
    slots None h = h
    slots (Some r) h = h

pub slots_of_seat : (w : WorldView) (c : Restorable) (q : Player) → Inv (protocol_state w c)
    → SlotsOk w.id w.terms (party_of q) (seat_keeper w q).slots (restorable_of c q)
slots_of_seat w c X inv = slots w.x inv.x.slots
  where
    slots : (s : Option SeatView)
        → SlotsOk w.id w.terms 1 (seat_state s w.x_keeper.slots c.x).slots
        (seat_state s w.x_keeper.slots c.x).restorable
        → SlotsOk w.id w.terms 1 w.x_keeper.slots c.x
    slots None h = h
    slots (Some s) h = h
slots_of_seat w c O inv = slots w.o inv.o.slots
  where
    slots : (s : Option SeatView)
        → SlotsOk w.id w.terms 2 (seat_state s w.o_keeper.slots c.o).slots
        (seat_state s w.o_keeper.slots c.o).restorable
        → SlotsOk w.id w.terms 2 w.o_keeper.slots c.o
    slots None h = h
    slots (Some s) h = h
