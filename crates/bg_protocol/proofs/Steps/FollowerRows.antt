-- A seat's take, and a watcher's, is a row of the protocol.
use Rattle.std.specs.Prelude.{◌≡◌, ℕ, ◌+◌, List, Option, Some, None, MatchOption, option_map, map, slice_get, slice_set}
use Rattle.std.proofs.Common.{refl, sym, ◌∙◌, ap, ap₂, subst}
use Rattle.bg_board.specs.declared.players.Player.{Player}
use Rattle.bg_board.specs.declared.players.Player.TheVariants.{X, O}
use Rattle.bg_match.specs.declared.entries.Entry.{Entry}
use Rattle.bg_wire.specs.declared.packets.Datagram.{Datagram}
use Rattle.bg_wire.specs.Parties.{party_of}
use Rattle.bg_wire.specs.Entries.Codes.{first_watcher}
use Rattle.bg_party.specs.Views.{SeatView, WatcherView}
use Rattle.bg_protocol.specs.declared.events.Outcome.{Outcome}
use Rattle.bg_protocol.specs.declared.events.Outcome.TheVariants as outcomes
use Rattle.bg_protocol.specs.declared.roles.Role.TheVariants as roles
use Rattle.bg_protocol.specs.Protocol.State.{SeatState, ProtocolState}
use Rattle.bg_protocol.specs.Worlds.WorldState.{AllKeepWhatWasShown, CoresMatch, Restorable, SeatSide, restorable_of, seat_state}
use Rattle.bg_protocol.specs.Worlds.WorldState.{protocol_state, watcher_entries}
use Rattle.bg_protocol.specs.Devices.LinkCalls.{FollowerTakeCalls}
use Rattle.bg_protocol.specs.Protocol.FollowerTakeStep.{FollowerTakeStep}
use Rattle.bg_protocol.specs.Worlds.Calls.{NoCalls, SeatTakes, TakeCalls, WatcherTakes}
use Rattle.bg_protocol.specs.Worlds.Views.{LinkView, WorldView, seat_core, seat_keeper, with_seat_core}
use Rattle.bg_protocol.specs.Protocol.Frames.{IfUp, NoParty}
use Rattle.bg_protocol.specs.Protocol.TakeStep.{TakeStep}
use Rattle.bg_protocol.proofs.Steps.Sides.{seat_side, seat_moves, watchers_match, get_log, set_log}
use Rattle.bg_protocol.proofs.Protocol.EarlyEntries.{seat_keeps, watcher_keeps}
use Rattle.bg_protocol.proofs.Steps.LearnRows.{seat_takes, watcher_takes}

-- ---- a seat

-- the row of a seat's take, between its states
abbrev SeatTakeRow : ProtocolState → Player → Outcome → SeatState → SeatState → Type 0
SeatTakeRow v q o old new =
    IfUp old.up old o new ((log : List Entry) × FollowerTakeStep v.id v.terms v.sent (party_of q) o old.log log
    × (new ≡ record old { log = log }))

-- the row of a seat's take, between worlds
abbrev SeatTook : WorldView → Restorable → Player → ℕ → Outcome → WorldView → Type 0
SeatTook w c q word x n = TakeStep (protocol_state w c) (roles.Seat q) word x (protocol_state n c) × CoresMatch n c

pub take_seat_goes : (w : WorldView) (c : Restorable) (honest : Type 0) → honest
    → (q : Player) (pick word : ℕ) (o : Outcome) (new : WorldView) → CoresMatch w c → AllKeepWhatWasShown w
    → TakeCalls honest w (roles.Seat q) (party_of q) pick word o new
    → TakeStep (protocol_state w c) (roles.Seat q) word o (protocol_state new c) × CoresMatch new c
take_seat_goes w c honest is_honest q pick word o new fits kept h = at (seat_core w q) (seat_side w c q fits) refl h
  where
    moved : (x : Outcome) (n : LinkView) (s : Option SeatView) → n.sent ≡ w.link.sent
        → SeatTakeRow (protocol_state w c) q x (seat_state (seat_core w q) (seat_keeper w q).slots (restorable_of c q))
        (seat_state s (seat_keeper w q).slots (restorable_of c q))
        → SeatSide w.id w.terms q s (seat_keeper w q) (restorable_of c q)
        → SeatTook w c q word x (with_seat_core (record w { link = n }) q s)
    moved x n s same row side = seat_moves w c q n s (SeatTakeRow (protocol_state w c) q x) fits same row side

    at : (s : Option SeatView) → SeatSide w.id w.terms q s (seat_keeper w q) (restorable_of c q) → seat_core w q ≡ s
        → MatchOption s (NoCalls outcomes.Down w o new)
        (λ s. (n : LinkView) × (s' : SeatView)
        × FollowerTakeCalls SeatTakes honest (party_of q) w.link s pick o n s'
        × (new ≡ with_seat_core (record w { link = n }) q (Some s')))
        → TakeStep (protocol_state w c) (roles.Seat q) word o (protocol_state new c) × CoresMatch new c
    at None side is k =
        subst (λ (x : Outcome). SeatTook w c q word x new) (sym k.0)
        (subst (SeatTook w c q word outcomes.Down) (same_seat q (seat_core w q) refl ∙ sym k.1)
        (moved outcomes.Down w.link (seat_core w q) refl (down (seat_core w q) is) (seat_side w c q fits)))
      where
        same_seat : (p : Player) (s : Option SeatView) → s ≡ seat_core w p → with_seat_core w p s ≡ w
        same_seat X s e = ap (λ (x : Option SeatView). record w { x = x }) e
        same_seat O s e = ap (λ (x : Option SeatView). record w { o = x }) e

        down : (s : Option SeatView) → s ≡ None
            → SeatTakeRow (protocol_state w c) q outcomes.Down (seat_state s (seat_keeper w q).slots (restorable_of c q))
            (seat_state s (seat_keeper w q).slots (restorable_of c q))
        down None e = (refl, refl)
        down (Some s) e = absurd cc
    at (Some s) side is k =
        let t = seat_takes w.id w.terms honest is_honest (party_of q) pick w.link k.0 s o k.1 side.1.log
        (seat_keeps w q s kept is) k.2 in
        subst (SeatTook w c q word o) (sym k.3) (moved o k.0 (Some k.1) t.2
        (subst (λ (x : Option SeatView). SeatTakeRow (protocol_state w c) q o
        (seat_state x (seat_keeper w q).slots (restorable_of c q))
        (seat_state (Some k.1) (seat_keeper w q).slots (restorable_of c q))) (sym is) (
          (k.1).follower.log.entries,
          t.0.0,
          ap (λ (x : SeatView). seat_state (Some x) (seat_keeper w q).slots (restorable_of c q)) t.1,
        )) (
          side.0,
          record {
            sits_for = ap (λ (x : SeatView). x.player) t.1 ∙ side.1.sits_for;
            log = t.0.1;
            next = ap (λ (x : SeatView). x.next_save) t.1 ∙ side.1.next;
          },
        ))

-- ---- a watcher

pub take_watcher_goes : (w : WorldView) (c : Restorable) (honest : Type 0) → honest
    → (i party pick word : ℕ) (o : Outcome) (new : WorldView) → party ≡ first_watcher + i → CoresMatch w c
    → AllKeepWhatWasShown w → TakeCalls honest w (roles.Watcher i) party pick word o new
    → TakeStep (protocol_state w c) (roles.Watcher i) word o (protocol_state new c) × CoresMatch new c
take_watcher_goes w c honest is_honest i party pick word o new is_party fits kept h = at (slice_get w.watchers i) refl h
  where
    at : (f : Option WatcherView) → slice_get w.watchers i ≡ f
        → MatchOption f (NoCalls outcomes.NoSuchParty w o new)
        (λ f. (n : LinkView) × (f' : WatcherView) × FollowerTakeCalls WatcherTakes honest party w.link f pick o n f'
        × (new ≡ record w { link = n; watchers = slice_set w.watchers i f' }))
        → TakeStep (protocol_state w c) (roles.Watcher i) word o (protocol_state new c) × CoresMatch new c
    at None is k = (
      subst (λ (x : Option (List Entry)). MatchOption x (NoParty (protocol_state w c) o (protocol_state new c))
          (λ old. (log : List Entry) × FollowerTakeStep w.id w.terms w.link.sent (first_watcher + i) o old log
          × (protocol_state new c ≡ record (protocol_state w c) { watchers = slice_set (map watcher_entries w.watchers) i log })))
          (sym (get_log w.watchers i ∙ ap (option_map watcher_entries) is))
          (k.0, ap (λ (x : WorldView). protocol_state x c) k.1),
      subst (λ (x : WorldView). CoresMatch x c) (sym k.1) fits,
    )
    at (Some f) is k =
        let fit = fits.watchers i f is in
        let t = watcher_takes w.id w.terms honest is_honest party pick w.link k.0 f o k.1 fit.log
        (watcher_keeps w i party f kept is_party is) k.2 in
        let row = subst (λ (p : ℕ). FollowerTakeStep w.id w.terms w.link.sent p o f.follower.log.entries
        (k.1).follower.log.entries) is_party t.0.0 in
        let after : protocol_state new c ≡ record
        (protocol_state w c) { watchers = slice_set (map watcher_entries w.watchers) i (k.1).follower.log.entries } =
        ap (λ (x : WorldView). protocol_state x c) k.3
        ∙ ap₂ (λ (l : List (List Entry)) (s : List Datagram). record (protocol_state w c) { watchers = l; sent = s })
        (set_log w.watchers i k.1) t.2 in (
          subst (λ (x : Option (List Entry)). MatchOption x (NoParty (protocol_state w c) o (protocol_state new c))
              (λ old. (log : List Entry) × FollowerTakeStep w.id w.terms w.link.sent (first_watcher + i) o old log
              × (protocol_state new c ≡ record (protocol_state w c) { watchers = slice_set (map watcher_entries w.watchers) i log })))
              (sym (get_log w.watchers i ∙ ap (option_map watcher_entries) is))
              ((k.1).follower.log.entries, row, after),
          subst (λ (x : WorldView). CoresMatch x c) (sym k.3) (record {
            referee = fits.referee;
            x = fits.x;
            o = fits.o;
            watchers = watchers_match w.id w.terms w.watchers i k.1 fits.watchers
                (record { party = ap (λ (x : WatcherView). x.party) t.1 ∙ fit.party; log = t.0.1 });
          }),
        )
