-- A restart is a row of the protocol.
use Rattle.std.specs.Prelude.{◌≡◌, ℕ, ◌+◌, Bool, true, false, List, [], Option, Some, None, IfSome, Result, MatchOption, option_map, map, slice_get, slice_set}
use Rattle.std.proofs.Common.{refl, sym, ◌∙◌, ap, subst}
use Rattle.bg_board.specs.declared.players.Player.{Player}
use Rattle.bg_board.specs.declared.players.Player.TheVariants.{X, O}
use Rattle.bg_match.specs.declared.entries.Entry.{Entry}
use Rattle.bg_match.specs.Terms.{Terms}
use Rattle.bg_wire.specs.declared.saves.Saved.{Saved}
use Rattle.bg_wire.specs.Saved.SlotLaws.{AreOfMatch, Slots}
use Rattle.bg_wire.specs.Saved.Restoring.{IsSavedBy, SlotsRestore}
use Rattle.bg_wire.specs.Parties.{party_of}
use Rattle.bg_wire.specs.Saved.SavedText.{SavedParts, parts_of}
use Rattle.bg_wire.specs.Entries.Codes.{first_watcher, referee}
use Rattle.bg_referee.specs.Referee.{RefereeView, fresh_referee, resumed_referee}
use Rattle.bg_party.specs.Views.{SeatView, WatcherView, fresh_seat, fresh_watcher, player_of, resumed_seat}
use Rattle.bg_protocol.specs.declared.events.Outcome.{Outcome}
use Rattle.bg_protocol.specs.declared.events.Outcome.TheVariants as outcomes
use Rattle.bg_protocol.specs.declared.events.RestoreCause.TheVariants as causes
use Rattle.bg_protocol.specs.declared.roles.Role.TheVariants as roles
use Rattle.bg_protocol.specs.Worlds.WorldState.{CoresMatch, RefereeMatches, Restorable, SeatMatches, referee_state, restorable_of, seat_state, protocol_state, watcher_entries, with_restorable}
use Rattle.bg_protocol.specs.Worlds.Calls.{NoCalls, RestartCalls}
use Rattle.bg_protocol.specs.Protocol.RestartStep.{RestartStep, RestartsTo}
use Rattle.bg_protocol.specs.Worlds.Views.{WorldView, seat_core, seat_keeper, with_seat_core, with_seat_keeper}
use Rattle.bg_protocol.specs.Devices.KeeperCalls.{ComesUp}
use Rattle.bg_protocol.specs.Protocol.Frames.{NoParty, SeatChanges}
use Rattle.bg_protocol.specs.Protocol.State.{RefereeState, SeatState, restored_referee, restored_seat, seat_in}
use Rattle.bg_protocol.proofs.Protocol.Saving.{number_after}
use Rattle.bg_protocol.proofs.Protocol.Invariant.{Inv}
use Rattle.bg_protocol.proofs.Steps.Sides.{seat_side, seat_saves, slots_of_referee, slots_of_seat, watchers_match, get_log, set_log}
use Rattle.bg_protocol.proofs.Steps.RestartCases.{IsReread, given, empty, not_read, no_memory, rereads}

-- what becomes of the party: `P` is told of a party that is up, or down
comes_back : {C : Type 0} (found : Option SavedParts) (resumed : Saved → C) (fresh : C)
    (answer : Result (Option Saved) Outcome) (result : Outcome)
    (core : Option C) (P : Bool → Option C → Type 0)
    → ((s : Saved) → found ≡ Some (parts_of s) → P true (Some (resumed s))) → (found ≡ None → P true (Some fresh))
    → P false None
    → IsReread found answer → ComesUp resumed fresh answer result core → RestartsTo result (λ up. P up core)
comes_back {C} found resumed fresh answer result core P if_found if_empty if_not h up = at h
  where
    as_told : (o : Outcome) (c : Option C) → result ≡ o → core ≡ c → RestartsTo o (λ up. P up c)
        → RestartsTo result (λ up. P up core)
    as_told o c e f k =
        subst (λ (x : Outcome). RestartsTo x (λ up. P up core)) (sym e)
        (subst (λ (x : Option C). RestartsTo o (λ up. P up x)) (sym f) k)

    at : IsReread found answer → RestartsTo result (λ up. P up core)
    at (given s e f) =
        let k = subst (λ (x : Result (Option Saved) Outcome). ComesUp resumed fresh x result core) f up in as_told outcomes.Restarted (Some (resumed s)) k.0 k.1 (if_found s e)
    at (empty e f) =
        let k = subst (λ (x : Result (Option Saved) Outcome). ComesUp resumed fresh x result core) f up in as_told outcomes.Restarted (Some fresh) k.0 k.1 (if_empty e)
    at (not_read f) =
        let k = subst (λ (x : Result (Option Saved) Outcome). ComesUp resumed fresh x result core) f up in as_told
        (outcomes.RestoreFault causes.Device) None k.0 k.1 if_not
    at (no_memory f) =
        let k = subst (λ (x : Result (Option Saved) Outcome). ComesUp resumed fresh x result core) f up in as_told outcomes.Memory None k.0 k.1 if_not

-- two facts of a party that came back
comes_both : (o : Outcome) (P : Bool → Type 0) (Q : Type 0) → RestartsTo o (λ up. P up × Q) → RestartsTo o P × Q
comes_both outcomes.Restarted P Q h = h
comes_both (outcomes.RestoreFault cause) P Q h = h
comes_both outcomes.Memory P Q h = h
comes_both _ P Q h = absurd h

-- told of every way to come back
comes_as : (o : Outcome) (P Q : Bool → Type 0) → ((up : Bool) → P up → Q up) → RestartsTo o P → RestartsTo o Q
comes_as outcomes.Restarted P Q f h = f true h
comes_as (outcomes.RestoreFault cause) P Q f h = f false h
comes_as outcomes.Memory P Q f h = f false h
comes_as _ P Q f h = absurd h

-- ---- the referee

-- what a referee that came back is, in the state
abbrev RefereeBack : ℕ → Terms → Slots → Option SavedParts → Bool → Option RefereeView → Type 0
RefereeBack id terms slots found up r =
    (referee_state r slots found ≡ restored_referee slots found up) × IfSome r (RefereeMatches id terms found)

referee_back : (id : ℕ) (terms : Terms) (slots : Slots) (found : Option SavedParts)
    → AreOfMatch referee id terms slots found
    → (s : Saved) → found ≡ Some (parts_of s) → RefereeBack id terms slots found true (Some (resumed_referee s))
referee_back id terms slots found of s e =
    let m : IsSavedBy referee id terms (parts_of s) = subst (AreOfMatch referee id terms slots) e of in
    subst (λ (x : Option SavedParts). RefereeBack id terms slots x true (Some (resumed_referee s))) (sym e)
    (refl, record { log = (m.id, m.terms); next = number_after s.save })

referee_fresh : (id : ℕ) (terms : Terms) (slots : Slots) (found : Option SavedParts) → found ≡ None
    → RefereeBack id terms slots found true (Some (fresh_referee id terms))
referee_fresh id terms slots found e =
    subst (λ (x : Option SavedParts). RefereeBack id terms slots x true (Some (fresh_referee id terms))) (sym e)
    (refl, record { log = (refl, refl); next = refl })

same_restored : (r : Option RefereeView) (slots : Slots) (found : Option SavedParts) (up : Bool)
    → restored_referee (referee_state r slots found).slots
    (referee_state r slots found).restorable up ≡ restored_referee slots found up
same_restored None slots found up = refl
same_restored (Some r) slots found up = refl

pub restart_referee_goes : (w : WorldView) (c : Restorable) (honest : Type 0) → honest
    → (o : Outcome) (new : WorldView) → CoresMatch w c → Inv (protocol_state w c)
    → RestartCalls honest w roles.Referee 0 o new
    → RestartStep (protocol_state w c) roles.Referee o (protocol_state new c) × CoresMatch new c
restart_referee_goes w c honest is_honest o new fits inv h =
    let k = h.0 in
    let r = h.1 in
    let answer = h.2.0 in
    let ok = slots_of_referee w c inv in
    let slots = w.referee_keeper.slots in
    let read = rereads w.id w.terms referee c.referee honest is_honest w.referee_keeper k answer ok h.2.1 in
    let back = comes_back c.referee resumed_referee (fresh_referee w.id w.terms) answer o r
    (RefereeBack w.id w.terms slots c.referee)
    (referee_back w.id w.terms slots c.referee ok.of_match) (referee_fresh w.id w.terms slots c.referee)
    (refl, tt) read.0 h.2.2 in
    let both = comes_both o (λ up. referee_state r slots c.referee ≡ restored_referee slots c.referee up)
    (IfSome r (RefereeMatches w.id w.terms c.referee)) back in
    let row = comes_as o (λ up. referee_state r slots c.referee ≡ restored_referee slots c.referee up)
    (λ up. protocol_state new c ≡ record (protocol_state w c) {
      referee = restored_referee
          (referee_state w.referee slots c.referee).slots (referee_state w.referee slots c.referee).restorable up;
    })
    (λ up e. ap (λ (x : WorldView). protocol_state x c) h.3
    ∙ ap (λ (x : RefereeState). record (protocol_state w c) { referee = x })
    (ap (λ (x : Slots). referee_state r x c.referee) read.1 ∙ e
    ∙ sym (same_restored w.referee slots c.referee up))) both.0 in (
      row,
      subst (λ (x : WorldView). CoresMatch x c) (sym h.3) (record {
        referee = (subst (λ (x : Slots). SlotsRestore x.zero x.one c.referee) (sym read.1) fits.referee.0, both.1);
        x = fits.x;
        o = fits.o;
        watchers = fits.watchers;
      }),
    )

-- ---- a seat

abbrev SeatBack : ℕ → Terms → Player → Slots → Option SavedParts → Bool → Option SeatView → Type 0
SeatBack id terms q slots found up s =
    (seat_state s slots found ≡ restored_seat slots found up) × IfSome s (SeatMatches id terms q found)

player_back : (q : Player) (party : ℕ) → party ≡ party_of q → player_of party ≡ q
player_back X party e = ap player_of e
player_back O party e = ap player_of e

seat_back : (id : ℕ) (terms : Terms) (q : Player) (slots : Slots) (found : Option SavedParts)
    → AreOfMatch (party_of q) id terms slots found
    → (s : Saved) → found ≡ Some (parts_of s) → SeatBack id terms q slots found true (Some (resumed_seat s))
seat_back id terms q slots found of s e =
    let m : IsSavedBy (party_of q) id terms (parts_of s) = subst (AreOfMatch (party_of q) id terms slots) e of in
    subst (λ (x : Option SavedParts). SeatBack id terms q slots x true (Some (resumed_seat s))) (sym e)
    (refl, record { sits_for = player_back q s.party m.party; log = (m.id, m.terms); next = number_after s.save })

seat_fresh : (id : ℕ) (terms : Terms) (q : Player) (slots : Slots) (found : Option SavedParts) → found ≡ None
    → SeatBack id terms q slots found true (Some (fresh_seat q id terms))
seat_fresh id terms q slots found e =
    subst (λ (x : Option SavedParts). SeatBack id terms q slots x true (Some (fresh_seat q id terms))) (sym e)
    (refl, record { sits_for = refl; log = (refl, refl); next = refl })

same_restored_seat : (s : Option SeatView) (slots : Slots) (found : Option SavedParts) (up : Bool)
    → restored_seat (seat_state s slots found).slots
    (seat_state s slots found).restorable up ≡ restored_seat slots found up
same_restored_seat None slots found up = refl
same_restored_seat (Some s) slots found up = refl

-- the row of a seat's restart, between its states
abbrev BackRow : Outcome → SeatState → SeatState → Type 0
BackRow o old new = RestartsTo o (λ up. new ≡ restored_seat old.slots old.restorable up)

same_restorable : (c : Restorable) (q : Player) → with_restorable c q (restorable_of c q) ≡ c
same_restorable c X = refl
same_restorable c O = refl

pub restart_seat_goes : (w : WorldView) (c : Restorable) (honest : Type 0) → honest
    → (q : Player) (o : Outcome) (new : WorldView) → CoresMatch w c → Inv (protocol_state w c)
    → RestartCalls honest w (roles.Seat q) (party_of q) o new
    → RestartStep (protocol_state w c) (roles.Seat q) o (protocol_state new c) × CoresMatch new c
restart_seat_goes w c honest is_honest q o new fits inv h =
    let k = h.0 in
    let s = h.1 in
    let answer = h.2.0 in
    let old = seat_keeper w q in
    let found = restorable_of c q in
    let side = seat_side w c q fits in
    let ok = slots_of_seat w c q inv in
    let read = rereads w.id w.terms (party_of q) found honest is_honest old k answer ok h.2.1 in
    let back = comes_back found resumed_seat (fresh_seat q w.id w.terms) answer o s
    (SeatBack w.id w.terms q old.slots found)
    (seat_back w.id w.terms q old.slots found ok.of_match) (seat_fresh w.id w.terms q old.slots found)
    (refl, tt) read.0 h.2.2 in
    let both = comes_both o (λ up. seat_state s old.slots found ≡ restored_seat old.slots found up)
    (IfSome s (SeatMatches w.id w.terms q found)) back in
    let row = comes_as o (λ up. seat_state s old.slots found ≡ restored_seat old.slots found up)
    (λ up. seat_state s k.slots found ≡ restored_seat (seat_state (seat_core w q) old.slots found).slots
    (seat_state (seat_core w q) old.slots found).restorable up)
    (λ up e. ap (λ (x : Slots). seat_state s x found) read.1 ∙ e
    ∙ sym (same_restored_seat (seat_core w q) old.slots found up)) both.0 in
    let moved = seat_saves w c q s k found (BackRow o) fits row
    (subst (λ (x : Slots). SlotsRestore x.zero x.one found) (sym read.1) side.0, both.1) in
    subst (λ (n : WorldView). RestartStep (protocol_state w c) (roles.Seat q) o (protocol_state n c) × CoresMatch n c) (sym h.3)
    (subst (λ (d : Restorable). SeatChanges (protocol_state w c) q
    (protocol_state (with_seat_keeper (with_seat_core w q s) q k) d) (BackRow o (seat_in (protocol_state w c) q))
    × CoresMatch (with_seat_keeper (with_seat_core w q s) q k) d) (same_restorable c q) moved)

-- ---- a watcher

pub restart_watcher_goes : (w : WorldView) (c : Restorable) (honest : Type 0)
    → (i party : ℕ) (o : Outcome) (new : WorldView) → party ≡ first_watcher + i → CoresMatch w c
    → RestartCalls honest w (roles.Watcher i) party o new
    → RestartStep (protocol_state w c) (roles.Watcher i) o (protocol_state new c) × CoresMatch new c
restart_watcher_goes w c honest i party o new is_party fits h = at (slice_get w.watchers i) refl h
  where
    lift : (f : Option WatcherView) → slice_get w.watchers i ≡ f
        → MatchOption (option_map watcher_entries f) (NoParty (protocol_state w c) o (protocol_state new c))
        (λ log. (o ≡ outcomes.Restarted)
        × (protocol_state new c ≡ record (protocol_state w c) { watchers = slice_set (map watcher_entries w.watchers) i [] }))
        → RestartStep (protocol_state w c) (roles.Watcher i) o (protocol_state new c)
    lift f is k =
        subst (λ (x : Option (List Entry)). MatchOption x (NoParty (protocol_state w c) o (protocol_state new c))
        (λ log. (o ≡ outcomes.Restarted)
        × (protocol_state new c ≡ record (protocol_state w c) { watchers = slice_set (map watcher_entries w.watchers) i [] })))
        (sym (get_log w.watchers i ∙ ap (option_map watcher_entries) is)) k

    at : (f : Option WatcherView) → slice_get w.watchers i ≡ f
        → MatchOption f (NoCalls outcomes.NoSuchParty w o new)
        (λ f. (o ≡ outcomes.Restarted) × (new ≡ record w {
          watchers = slice_set w.watchers i
              (fresh_watcher party w.id w.terms);
        }))
        → RestartStep (protocol_state w c) (roles.Watcher i) o (protocol_state new c) × CoresMatch new c
    at None is k = (
      lift None is (k.0, ap (λ (x : WorldView). protocol_state x c) k.1),
      subst (λ (x : WorldView). CoresMatch x c) (sym k.1) fits,
    )
    at (Some f) is k = (
      lift (Some f) is (
        k.0,
        ap (λ (x : WorldView). protocol_state x c) k.1
            ∙ ap (λ (l : List (List Entry)). record (protocol_state w c) { watchers = l })
            (set_log w.watchers i (fresh_watcher party w.id w.terms)),
      ),
      subst (λ (x : WorldView). CoresMatch x c) (sym k.1) (record {
        referee = fits.referee;
        x = fits.x;
        o = fits.o;
        watchers = watchers_match w.id w.terms w.watchers i (fresh_watcher party w.id w.terms) fits.watchers
            (record { party = is_party; log = (refl, refl) });
      }),
    )
