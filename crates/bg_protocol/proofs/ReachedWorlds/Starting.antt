-- A world where nothing has happened yet, over an empty link and empty slots, is a reached world:
-- its state is the start.
use Rattle.std.specs.Prelude.{◌≡◌, ◌⊎◌, ℕ, zero, suc, ◌+◌, List, [], ◌∷◌, ◌++◌, Option, Some, None, Result, Ok, Err, IfOk}
use Rattle.std.specs.Prelude.{MatchResult, length, map, replicate, slice_get}
use Rattle.std.proofs.Common.{refl, sym, ◌∙◌, ap, ap₂, subst, inl, inr, arith, length-append}
use Rattle.std.proofs.lemmas.List.{map-append}
use Rattle.std.proofs.lemmas.Option.{same_Some}
use Rattle.bg_match.specs.Terms.{Terms}
use Rattle.bg_match.specs.declared.entries.Entry.{Entry}
use Rattle.bg_wire.specs.Entries.Codes.{first_watcher}
use Rattle.bg_wire.specs.Saved.Restoring.{SlotsRestore}
use Rattle.bg_wire.specs.Saved.SavedText.{SavedParts}
use Rattle.bg_wire.specs.Saved.SlotLaws.{Slots}
use Rattle.bg_wire.specs.declared.packets.Datagram.{Datagram}
use Rattle.bg_wire.proofs.OfSaves.OneText.{empty_loads, restores_once}
use Rattle.bg_party.specs.Views.{WatcherView, fresh_follower, fresh_watcher}
use Rattle.bg_protocol.specs.declared.worlds.setups.Setup.{Setup}
use Rattle.bg_protocol.specs.Protocol.Slots.{empty_slots}
use Rattle.bg_protocol.specs.Worlds.Starts.{terms_in, AreUnused, fresh_watchers, fresh_world}
use Rattle.bg_protocol.specs.Protocol.State.{IsSetup, protocol_start}
use Rattle.bg_protocol.specs.Worlds.Views.{KeeperView, LinkView, WorldView}
use Rattle.bg_protocol.specs.Worlds.WorldState.{CoresMatch, IsReachedWorld, Restorable, WatcherMatches, WatchersMatch, protocol_state}
use Rattle.bg_protocol.specs.Worlds.WorldState.{watcher_entries}
use Rattle.bg_protocol.specs.Worlds.WorldLaws.{NewWorldsAreAtTheStart}
use Rattle.bg_protocol.proofs.Protocol.EarlyEntries.{none_kept}

-- ---- the watchers

many_watchers : (id : ℕ) (terms : Terms) (n : ℕ) → length (fresh_watchers id terms n) ≡ n
many_watchers id terms zero = refl
many_watchers id terms (suc n) =
    let e = many_watchers id terms n in
    omega (e, length-append (fresh_watchers id terms n) (fresh_watcher (first_watcher + n) id terms ∷ []), arith)

no_entries : List Entry
no_entries = []

more_empty : (n : ℕ) → replicate n no_entries ++ no_entries ∷ [] ≡ no_entries ∷ replicate n no_entries
more_empty zero = refl
more_empty (suc n) = ap (λ (l : List (List Entry)). no_entries ∷ l) (more_empty n)

empty_logs : (id : ℕ) (terms : Terms) (n : ℕ) → map watcher_entries (fresh_watchers id terms n) ≡ replicate n []
unfolding no_entries
empty_logs id terms zero = refl
empty_logs id terms (suc n) =
    map-append watcher_entries (fresh_watchers id terms n) (fresh_watcher (first_watcher + n) id terms ∷ [])
    ∙ ap (λ (l : List (List Entry)). l ++ [] ∷ []) (empty_logs id terms n) ∙ more_empty n

get_last : (xs : List WatcherView) (x : WatcherView) (i : ℕ) (f : WatcherView) → slice_get (xs ++ x ∷ []) i ≡ Some f
    → (slice_get xs i ≡ Some f) ⊎ ((i ≡ length xs) × (f ≡ x))
get_last [] x zero f h = inr (refl, sym (same_Some x f h))
get_last [] x (suc i) f h = absurd cc
get_last (y ∷ ys) x zero f h = inl h
get_last (y ∷ ys) x (suc i) f h = at (get_last ys x i f h)
  where
    at : (slice_get ys i ≡ Some f) ⊎ ((i ≡ length ys) × (f ≡ x))
        → (slice_get ys i ≡ Some f) ⊎ ((suc i ≡ suc (length ys)) × (f ≡ x))
    at (inl p) = inl p
    at (inr p) = inr (ap suc p.0, p.1)

pub fresh_match : (id : ℕ) (terms : Terms) (n : ℕ) → WatchersMatch id terms (fresh_watchers id terms n)
fresh_match id terms zero i f h = absurd cc
fresh_match id terms (suc n) i f h =
    at (fresh_match id terms n) (get_last (fresh_watchers id terms n)
    (fresh_watcher (first_watcher + n) id terms) i f h)
  where
    at : WatchersMatch id terms (fresh_watchers id terms n)
        → (slice_get (fresh_watchers id terms n) i ≡ Some f) ⊎
        ((i ≡ length (fresh_watchers id terms n)) × (f ≡ fresh_watcher (first_watcher + n) id terms))
        → WatcherMatches id terms i f
    at before (inl p) = before i f p
    at before (inr p) =
        subst (λ (x : WatcherView). WatcherMatches id terms i x) (sym p.1)
        (record {
          party = (let a = p.0 in let b = many_watchers id terms n in omega (a, b, arith));
          log = (refl, refl);
        })

fresh_keep : (id : ℕ) (terms : Terms) (n i : ℕ) (f : WatcherView)
    → slice_get (fresh_watchers id terms n) i ≡ Some f → f.follower.early ≡ []
fresh_keep id terms zero i f h = absurd cc
fresh_keep id terms (suc n) i f h =
    at (fresh_keep id terms n i f)
    (get_last (fresh_watchers id terms n) (fresh_watcher (first_watcher + n) id terms) i f h)
  where
    at : (slice_get (fresh_watchers id terms n) i ≡ Some f → f.follower.early ≡ [])
        → (slice_get (fresh_watchers id terms n) i ≡ Some f) ⊎
        ((i ≡ length (fresh_watchers id terms n)) × (f ≡ fresh_watcher (first_watcher + n) id terms))
        → f.follower.early ≡ []
    at before (inl p) = before p
    at before (inr p) = ap (λ (x : WatcherView). x.follower.early) p.1

-- ---- the world

nothing_restored : (slots : Slots) → slots ≡ empty_slots → SlotsRestore slots.zero slots.one None
nothing_restored slots e =
    subst (λ (x : Slots). SlotsRestore x.zero x.one None) (sym e)
    (record { first = None; second = None; first_loads = empty_loads; second_loads = empty_loads; is_newer = refl })

abbrev nothing : Restorable
nothing = record { referee = None; x = None; o = None }

module _ (setup : Setup) (link : LinkView) (referee x o : KeeperView) (no_sent : link.sent ≡ [])
    (no_referee : referee.slots ≡ empty_slots)
    (no_x : x.slots ≡ empty_slots) (no_o : o.slots ≡ empty_slots) where
  start_is : protocol_state (fresh_world setup link referee x o) nothing ≡ protocol_start setup.id (terms_in setup) setup.watchers
  start_is =
      let w = protocol_start setup.id (terms_in setup) setup.watchers in
      ap₂ (λ (s : List Datagram) (l : List (List Entry)). record w {
        referee = record (w.referee) { slots = referee.slots };
        x = record (w.x) { slots = x.slots };
        o = record (w.o) { slots = o.slots };
        watchers = l;
        sent = s;
      }) no_sent (empty_logs setup.id (terms_in setup) setup.watchers)
      ∙ ap (λ (a : Slots). record w {
        referee = record (w.referee) { slots = a };
        x = record (w.x) { slots = x.slots };
        o = record (w.o) { slots = o.slots };
      }) no_referee
      ∙ ap₂ (λ (b c : Slots). record w { x = record (w.x) { slots = b }; o = record (w.o) { slots = c } }) no_x no_o

  start_matches : CoresMatch (fresh_world setup link referee x o) nothing
  start_matches = record {
    referee = (nothing_restored referee.slots no_referee, record { log = (refl, refl); next = refl });
    x = (nothing_restored x.slots no_x, record { sits_for = refl; log = (refl, refl); next = refl });
    o = (nothing_restored o.slots no_o, record { sits_for = refl; log = (refl, refl); next = refl });
    watchers = fresh_match setup.id (terms_in setup) setup.watchers;
  }

  pub start_reached : IsSetup setup.id (terms_in setup) setup.watchers → IsReachedWorld
      (fresh_world setup link referee x o)
  start_reached is = record {
    restorable = nothing;
    reached = record {
      id = setup.id;
      terms = terms_in setup;
      watchers = setup.watchers;
      setup = is;
      history = [];
      run = start_is;
    };
    cores = start_matches;
    early = record {
      x = none_kept setup.id (terms_in setup) link.sent 1 (fresh_follower setup.id (terms_in setup)) refl;
      o = none_kept setup.id (terms_in setup) link.sent 2 (fresh_follower setup.id (terms_in setup)) refl;
      watchers = λ i f is. none_kept setup.id (terms_in setup) link.sent (first_watcher + i) f.follower
          (fresh_keep setup.id (terms_in setup) setup.watchers i f is);
    };
  }

  pub start_state : (is : IsSetup setup.id (terms_in setup) setup.watchers)
      → protocol_state (fresh_world setup link referee x o) (start_reached is).restorable
      ≡ protocol_start setup.id (terms_in setup) setup.watchers
  unfolding start_reached
  start_state is = start_is

same_restorable : (r : Restorable) → r.referee ≡ None → r.x ≡ None → r.o ≡ None → r ≡ nothing
same_restorable r referee x o =
    ap₂ (λ (a b : Option SavedParts). record { referee = a; x = b; o = r.o }) referee x
    ∙ ap (λ (c : Option SavedParts). record { referee = None; x = None; o = c }) o

pub at_the_start : NewWorldsAreAtTheStart
at_the_start setup link referee x o is unused =
    let w = fresh_world setup link referee x o in
    let one : (slots : Slots) (found : Option SavedParts) → slots ≡ empty_slots
    → SlotsRestore slots.zero slots.one found → found ≡ None =
    λ slots found empty restore. restores_once slots.zero slots.one found None restore (nothing_restored slots empty) in (
      start_reached setup link referee x o unused.none_sent unused.referee_empty unused.x_empty unused.o_empty is,
      λ reached.
          let fits = reached.cores in
          ap (protocol_state w) (same_restorable reached.restorable
          (one referee.slots reached.restorable.referee unused.referee_empty fits.referee.0)
          (one x.slots reached.restorable.x unused.x_empty fits.x.0)
          (one o.slots reached.restorable.o unused.o_empty fits.o.0))
          ∙ start_is setup link referee x o unused.none_sent unused.referee_empty unused.x_empty unused.o_empty,
    )

-- a world that is made over devices that nothing was asked of is a reached one
pub made_reached : {W E : Type 0} (setup : Setup) (link : LinkView) (referee x o : KeeperView) (view : W → WorldView)
    (Refuses : E → Type 0) (result : Result W E)
    → IfOk result (λ world. view world ≡ fresh_world setup link referee x o)
    → MatchResult result (λ _. IsSetup setup.id (terms_in setup) setup.watchers) Refuses
    → IfOk result (λ world. AreUnused link referee x o → IsReachedWorld (view world))
made_reached setup link referee x o view Refuses (Ok world) start is = λ unused.
    subst IsReachedWorld (sym start)
    (start_reached setup link referee x o unused.none_sent unused.referee_empty unused.x_empty unused.o_empty is)
made_reached setup link referee x o view Refuses (Err fault) start is = tt
