-- What followers keep was shown to them, after each event too.
use Rattle.std.specs.Prelude.{◌≡◌, ◌⊎◌, ℕ, zero, suc, ◌+◌, List, [], ◌++◌, Option, Some, None, IfSome, Result, Ok, Err}
use Rattle.std.specs.Prelude.{MatchOption, slice_get, slice_set}
use Rattle.std.specs.Global.{Vec}
use Rattle.std.proofs.Common.{refl, sym, ◌∙◌, ap, subst, inl, inr, arith}
use Rattle.bg_match.specs.Terms.{Terms}
use Rattle.bg_board.specs.declared.players.Player.{Player}
use Rattle.bg_board.specs.declared.players.Player.TheVariants.{X, O}
use Rattle.bg_match.specs.declared.actions.Action.{Action}
use Rattle.bg_wire.specs.Entries.Codes.{first_watcher}
use Rattle.bg_wire.specs.Parties.{party_of}
use Rattle.bg_wire.specs.declared.faults.SaveRefusal.{SaveRefusal}
use Rattle.bg_wire.specs.declared.faults.SaveRefusal.TheVariants as save_refusals
use Rattle.bg_wire.specs.declared.packets.Datagram.{Datagram}
use Rattle.bg_wire.specs.declared.saves.Saved.{Saved}
use Rattle.bg_wire.specs.declared.saves.slots.Slot.{Slot}
use Rattle.bg_referee.specs.Dues.{RefereeDues}
use Rattle.bg_referee.specs.Referee.{RefereeView}
use Rattle.bg_referee.specs.declared.outcomes.DueFault.{DueFault}
use Rattle.bg_party.specs.Claims.{SeatChooses, SeatTicks, WatcherTicks}
use Rattle.bg_party.specs.Views.{SeatView, WatcherView, fresh_seat, fresh_watcher, resumed_seat, seat_after_save}
use Rattle.bg_party.specs.declared.outcomes.ChooseFault.{ChooseFault}
use Rattle.bg_protocol.specs.declared.devices.DeviceFault.{DeviceFault}
use Rattle.bg_protocol.specs.declared.events.Event.{Event}
use Rattle.bg_protocol.specs.declared.events.Event.TheVariants as events
use Rattle.bg_protocol.specs.declared.events.Outcome.{Outcome}
use Rattle.bg_protocol.specs.declared.events.Outcome.TheVariants as outcomes
use Rattle.bg_protocol.specs.declared.roles.Role.TheVariants as roles
use Rattle.bg_protocol.specs.Worlds.Calls.{Calls, ChooseCalls, DueCalls, NoCalls, RestartCalls, SaveCalls, SeatTakes, TakeCalls}
use Rattle.bg_protocol.specs.Worlds.Calls.{TickCalls, WatcherTakes, seat_parts}
use Rattle.bg_protocol.specs.Devices.KeeperCalls.{ComesUp, SaveCallsAt, SaveGoesOn, SaveTold}
use Rattle.bg_protocol.specs.Devices.LinkCalls.{FollowerTakeCalls, FollowerTickCalls, RefereeTakeCalls, RefereeTickCalls}
use Rattle.bg_protocol.specs.Protocol.Roles.{role}
use Rattle.bg_protocol.specs.Worlds.Views.{KeeperView, LinkView, WorldView, parties, seat_core, seat_keeper, with_seat_core}
use Rattle.bg_protocol.specs.Worlds.Views.{with_seat_keeper}
use Rattle.bg_protocol.specs.Worlds.WorldState.{AllKeepWhatWasShown, CoresMatch, KeepsWhatWasShown, Restorable, SeatSide}
use Rattle.bg_protocol.specs.Worlds.WorldState.{restorable_of}
use Rattle.bg_protocol.proofs.Protocol.EarlyEntries.{none_kept, seat_keeps, shown_more, watcher_keeps}
use Rattle.bg_protocol.proofs.Steps.LearnRows.{seat_takes, watcher_takes}
use Rattle.bg_protocol.proofs.Steps.Sides.{get_set_watcher, seat_side}

if_some : {C : Type 0} (o : Option C) (P Q : C → Type 0) → ((c : C) → P c → Q c) → IfSome o P → IfSome o Q
if_some None P Q f h = tt
if_some (Some c) P Q f h = f c h

-- a seat, where it is up, keeps what was shown
abbrev SeatKeeps : ℕ → Terms → List Datagram → Player → Option SeatView → Type 0
SeatKeeps id terms sent q s = IfSome s (λ s. KeepsWhatWasShown id terms sent (party_of q) s.follower)

-- ---- changes of a world

after_sends : (w : WorldView) (out : List Datagram) (n : LinkView) → n.sent ≡ w.link.sent ++ out
    → AllKeepWhatWasShown w → AllKeepWhatWasShown (record w { link = n })
after_sends w out n more kept = record {
  x = if_some w.x (λ s. KeepsWhatWasShown w.id w.terms w.link.sent 1 s.follower)
      (λ s. KeepsWhatWasShown w.id w.terms n.sent 1 s.follower)
      (λ s. shown_more w.id w.terms w.link.sent n.sent out 1 s.follower more) kept.x;
  o = if_some w.o (λ s. KeepsWhatWasShown w.id w.terms w.link.sent 2 s.follower)
      (λ s. KeepsWhatWasShown w.id w.terms n.sent 2 s.follower)
      (λ s. shown_more w.id w.terms w.link.sent n.sent out 2 s.follower more) kept.o;
  watchers =
      λ i f is. shown_more w.id w.terms w.link.sent n.sent out (first_watcher + i) f.follower more (kept.watchers i f is);
}

with_seat : (w : WorldView) (q : Player) (s : Option SeatView) → SeatKeeps w.id w.terms w.link.sent q s
    → AllKeepWhatWasShown w → AllKeepWhatWasShown (with_seat_core w q s)
with_seat w X s one kept = record { x = one; o = kept.o; watchers = kept.watchers }
with_seat w O s one kept = record { x = kept.x; o = one; watchers = kept.watchers }

with_keeper : (w : WorldView) (q : Player) (k : KeeperView) → AllKeepWhatWasShown w
    → AllKeepWhatWasShown (with_seat_keeper w q k)
with_keeper w X k kept = record { x = kept.x; o = kept.o; watchers = kept.watchers }
with_keeper w O k kept = record { x = kept.x; o = kept.o; watchers = kept.watchers }

with_watcher : (w : WorldView) (i : ℕ) (f : WatcherView)
    → KeepsWhatWasShown w.id w.terms w.link.sent (first_watcher + i) f.follower
    → AllKeepWhatWasShown w → AllKeepWhatWasShown (record w { watchers = slice_set w.watchers i f })
with_watcher w i f one kept = record {
  x = kept.x;
  o = kept.o;
  watchers = λ j g is. at j g (get_set_watcher w.watchers i f j g is);
}
  where
    at : (j : ℕ) (g : WatcherView) → ((j ≡ i) × (g ≡ f)) ⊎ (slice_get w.watchers j ≡ Some g)
        → KeepsWhatWasShown w.id w.terms w.link.sent (first_watcher + j) g.follower
    at j g (inl p) =
        subst (λ (x : WatcherView). KeepsWhatWasShown w.id w.terms w.link.sent (first_watcher + j) x.follower) (sym p.1)
        (subst (λ (n : ℕ). KeepsWhatWasShown w.id w.terms w.link.sent (first_watcher + n) f.follower) (sym p.0) one)
    at j g (inr p) = kept.watchers j g p

-- ---- what a core keeps after it chose, saved or came back

chosen : (id : ℕ) (terms : Terms) (sent : List Datagram) (party : ℕ) (s : SeatView) (a : Action) (told : Result ℕ ChooseFault)
    (s' : SeatView) → SeatChooses s a told s' → KeepsWhatWasShown id terms sent party s.follower
    → KeepsWhatWasShown id terms sent party s'.follower
chosen id terms sent party s a (Ok n) s' h kept =
    subst (λ (x : SeatView). KeepsWhatWasShown id terms sent party x.follower) (sym h.chooses.1) kept
chosen id terms sent party s a (Err why) s' h kept =
    subst (λ (x : SeatView). KeepsWhatWasShown id terms sent party x.follower) (sym h.chooses.1) kept

module _ (id : ℕ) (terms : Terms) (sent : List Datagram) (q : Player) where
  is_core : (s : Option SeatView) (r : SeatView) → s ≡ Some r → KeepsWhatWasShown id terms sent (party_of q) r.follower
      → SeatKeeps id terms sent q s
  is_core s r is kept = subst (SeatKeeps id terms sent q) (sym is) kept

  is_down : (s : Option SeatView) → s ≡ None → SeatKeeps id terms sent q s
  is_down s is = subst (SeatKeeps id terms sent q) (sym is) tt

  saved : (honest : Type 0) (old : KeeperView) (core : Option SeatView) (o : Outcome) (k : KeeperView)
      (s : Option SeatView) → SeatKeeps id terms sent q core
      → SaveCallsAt seat_parts seat_after_save honest old core o k s → SeatKeeps id terms sent q s
  saved honest old None o k s kept h = is_down s h.2
  saved honest old (Some r) o k s kept h = goes_on h.0 h.2
    where
      told : (save : ℕ) (answer : Result (Unit {0}) DeviceFault) → SaveTold save (seat_after_save r save) answer o s
          → SeatKeeps id terms sent q s
      told save (Ok done) g = is_core s (seat_after_save r save) g.1 kept
      told save (Err fault) g = is_down s g.1

      goes_on : (next : Result (Slot × ℕ × Vec ℕ) SaveRefusal) → SaveGoesOn seat_after_save honest old r next o k s
          → SeatKeeps id terms sent q s
      goes_on (Ok next) g = told next.1 g.0 g.2
      goes_on (Err save_refusals.SavesSpent) g = is_core s r g.2 kept
      goes_on (Err save_refusals.Memory) g = is_core s r g.2 kept

  comes_back : (fresh : SeatView) → fresh.follower.early ≡ [] → (restored : Result (Option Saved) Outcome) (o : Outcome)
      (s : Option SeatView) → ComesUp resumed_seat fresh restored o s → SeatKeeps id terms sent q s
  comes_back fresh none (Ok (Some r)) o s h =
      is_core s (resumed_seat r) h.1 (none_kept id terms sent (party_of q) (resumed_seat r).follower refl)
  comes_back fresh none (Ok None) o s h = is_core s fresh h.1 (none_kept id terms sent (party_of q) fresh.follower none)
  comes_back fresh none (Err why) o s h = is_down s h.1

-- ---- after an event

module _ (w : WorldView) (c : Restorable) (link_honest keepers_honest : Type 0) (link : link_honest)
    (fits : CoresMatch w c) (kept : AllKeepWhatWasShown w) (new : WorldView) (out : List Datagram)
    (grown : new.link.sent ≡ w.link.sent ++ out) where
  stays : new ≡ w → AllKeepWhatWasShown new
  stays e = subst AllKeepWhatWasShown (sym e) kept

  -- the referee's changes are none of theirs
  at_referee : (n : LinkView) (k : KeeperView) (r : Option RefereeView)
      → new ≡ record w { link = n; referee_keeper = k; referee = r } → AllKeepWhatWasShown new
  at_referee n k r e =
      let more : n.sent ≡ w.link.sent ++ out = sym (ap (λ (x : WorldView). x.link.sent) e) ∙ grown in
      let all = after_sends w out n more kept in
      subst AllKeepWhatWasShown (sym e) (record { x = all.x; o = all.o; watchers = all.watchers })

  at_seat : (q : Player) (n : LinkView) (s : Option SeatView) → new ≡ with_seat_core (record w { link = n }) q s
      → SeatKeeps w.id w.terms w.link.sent q s → AllKeepWhatWasShown new
  at_seat q n s e one =
      let more : n.sent ≡ w.link.sent ++ out = sym (ap (λ (x : WorldView). x.link.sent) e ∙ same_link q) ∙ grown in
      subst AllKeepWhatWasShown (sym e) (with_seat (record w { link = n }) q s
      (if_some s (λ s. KeepsWhatWasShown w.id w.terms w.link.sent (party_of q) s.follower)
      (λ s. KeepsWhatWasShown w.id w.terms n.sent (party_of q) s.follower)
      (λ s. shown_more w.id w.terms w.link.sent n.sent out (party_of q) s.follower more) one) (after_sends w out n more kept))
    where
      same_link : (p : Player) → (with_seat_core (record w { link = n }) p s).link.sent ≡ n.sent
      same_link X = refl
      same_link O = refl

  at_keeper : (q : Player) (k : KeeperView) (s : Option SeatView) → new ≡ with_seat_keeper (with_seat_core w q s) q k
      → SeatKeeps w.id w.terms w.link.sent q s → AllKeepWhatWasShown new
  at_keeper q k s e one =
      subst AllKeepWhatWasShown (sym e) (with_keeper (with_seat_core w q s) q k (with_seat w q s one kept))

  at_watcher : (i : ℕ) (n : LinkView) (f : WatcherView)
      → new ≡ record w { link = n; watchers = slice_set w.watchers i f }
      → KeepsWhatWasShown w.id w.terms w.link.sent (first_watcher + i) f.follower → AllKeepWhatWasShown new
  at_watcher i n f e one =
      let more : n.sent ≡ w.link.sent ++ out = sym (ap (λ (x : WorldView). x.link.sent) e) ∙ grown in
      subst AllKeepWhatWasShown (sym e) (with_watcher (record w { link = n }) i f
      (shown_more w.id w.terms w.link.sent n.sent out (first_watcher + i) f.follower more one) (after_sends w out n more kept))

  due : (word : ℕ) (o : Outcome) → DueCalls w word o new → AllKeepWhatWasShown new
  due word o h = at w.referee h
    where
      at : (r : Option RefereeView) → MatchOption r (NoCalls outcomes.Down w o new)
          (λ core. (answer : Result ℕ DueFault) × (after : RefereeView) × RefereeDues core word answer after
          × (o ≡ outcomes.Due answer) × (new ≡ record w { referee = Some after }))
          → AllKeepWhatWasShown new
      at None k = stays k.1
      at (Some r) k = at_referee w.link w.referee_keeper (Some k.1) k.4

  choose : (q : Player) (a : Action) (o : Outcome) → ChooseCalls w q a o new → AllKeepWhatWasShown new
  choose q a o h = at (seat_core w q) refl h
    where
      at : (s : Option SeatView) → seat_core w q ≡ s
          → MatchOption s (NoCalls outcomes.Down w o new)
          (λ s. (told : Result ℕ ChooseFault) × (s' : SeatView) × SeatChooses s a told s' × (o ≡ outcomes.Chose told)
          × (new ≡ with_seat_core w q (Some s')))
          → AllKeepWhatWasShown new
      at None is k = stays k.1
      at (Some s) is k =
          at_seat q w.link (Some k.1) k.4
          (chosen w.id w.terms w.link.sent (party_of q) s a k.0 k.1 k.2 (seat_keeps w q s kept is))

  -- ---- takes

  take_at_referee : (party pick word : ℕ) (o : Outcome) → TakeCalls link_honest w roles.Referee party pick word o new
      → AllKeepWhatWasShown new
  take_at_referee party pick word o h = at w.referee h
    where
      at : (r : Option RefereeView) → MatchOption r (NoCalls outcomes.Down w o new)
          (λ core. (n : LinkView) × (after : RefereeView)
          × RefereeTakeCalls link_honest (parties w) w.link core pick word o n after
          × (new ≡ record w { link = n; referee = Some after }))
          → AllKeepWhatWasShown new
      at None k = stays k.1
      at (Some r) k = at_referee k.0 w.referee_keeper (Some k.1) k.3

  take_at_seat : (q : Player) (pick word : ℕ) (o : Outcome)
      → TakeCalls link_honest w (roles.Seat q) (party_of q) pick word o new → AllKeepWhatWasShown new
  take_at_seat q pick word o h = at (seat_core w q) (seat_side w c q fits) refl h
    where
      at : (s : Option SeatView) → SeatSide w.id w.terms q s (seat_keeper w q) (restorable_of c q)
          → seat_core w q ≡ s
          → MatchOption s (NoCalls outcomes.Down w o new)
          (λ s. (n : LinkView) × (s' : SeatView)
          × FollowerTakeCalls SeatTakes link_honest (party_of q) w.link s pick o n s'
          × (new ≡ with_seat_core (record w { link = n }) q (Some s')))
          → AllKeepWhatWasShown new
      at None side is k = stays k.1
      at (Some s) side is k =
          let t = seat_takes w.id w.terms link_honest link (party_of q) pick w.link k.0 s o k.1 side.1.log
          (seat_keeps w q s kept is) k.2 in
          at_seat q k.0 (Some k.1) k.3 t.0.2

  take_at_watcher : (i party pick word : ℕ) (o : Outcome) → party ≡ first_watcher + i
      → TakeCalls link_honest w (roles.Watcher i) party pick word o new → AllKeepWhatWasShown new
  take_at_watcher i party pick word o is_party h = at (slice_get w.watchers i) refl h
    where
      at : (f : Option WatcherView) → slice_get w.watchers i ≡ f
          → MatchOption f (NoCalls outcomes.NoSuchParty w o new)
          (λ f. (n : LinkView) × (f' : WatcherView)
          × FollowerTakeCalls WatcherTakes link_honest party w.link f pick o n f'
          × (new ≡ record w { link = n; watchers = slice_set w.watchers i f' }))
          → AllKeepWhatWasShown new
      at None is k = stays k.1
      at (Some f) is k =
          let t = watcher_takes w.id w.terms link_honest link party pick w.link k.0 f o k.1
          (fits.watchers i f is).log (watcher_keeps w i party f kept is_party is) k.2 in
          at_watcher i k.0 k.1 k.3
          (subst (λ (p : ℕ). KeepsWhatWasShown w.id w.terms w.link.sent p (k.1).follower) is_party t.0.2)

  -- ---- saves

  save_at_referee : (o : Outcome) → SaveCalls keepers_honest w roles.Referee o new → AllKeepWhatWasShown new
  save_at_referee o h = at_referee w.link h.0 h.1 h.3

  save_at_seat : (q : Player) (o : Outcome) → SaveCalls keepers_honest w (roles.Seat q) o new → AllKeepWhatWasShown new
  save_at_seat q o h =
      at_keeper q h.0 h.1 h.3
      (saved w.id w.terms w.link.sent q keepers_honest (seat_keeper w q) (seat_core w q) o h.0 h.1 (kept_seat q) h.2)
    where
      kept_seat : (p : Player) → SeatKeeps w.id w.terms w.link.sent p (seat_core w p)
      kept_seat X = kept.x
      kept_seat O = kept.o

  -- ---- ticks

  tick_at_referee : (o : Outcome) → TickCalls link_honest w roles.Referee o new → AllKeepWhatWasShown new
  tick_at_referee o h = at w.referee h
    where
      at : (r : Option RefereeView) → MatchOption r (NoCalls outcomes.Down w o new)
          (λ core. (n : LinkView) × (after : RefereeView)
          × RefereeTickCalls link_honest (parties w) w.link core o n after
          × (new ≡ record w { link = n; referee = Some after }))
          → AllKeepWhatWasShown new
      at None k = stays k.1
      at (Some r) k = at_referee k.0 w.referee_keeper (Some k.1) k.3

  tick_at_seat : (q : Player) (o : Outcome) → TickCalls link_honest w (roles.Seat q) o new → AllKeepWhatWasShown new
  tick_at_seat q o h = at (seat_core w q) refl h
    where
      at : (s : Option SeatView) → seat_core w q ≡ s
          → MatchOption s (NoCalls outcomes.Down w o new)
          (λ s. (n : LinkView) × (s' : SeatView) × FollowerTickCalls SeatTicks link_honest (parties w) w.link s o n s'
          × (new ≡ with_seat_core (record w { link = n }) q (Some s')))
          → AllKeepWhatWasShown new
      at None is k = stays k.1
      at (Some s) is k =
          at_seat q k.0 (Some k.1) k.3
          (subst (λ (x : SeatView). KeepsWhatWasShown w.id w.terms w.link.sent (party_of q) x.follower) (sym k.2.1.after)
          (seat_keeps w q s kept is))

  tick_at_watcher : (i : ℕ) (o : Outcome) → TickCalls link_honest w (roles.Watcher i) o new → AllKeepWhatWasShown new
  tick_at_watcher i o h = at (slice_get w.watchers i) refl h
    where
      at : (f : Option WatcherView) → slice_get w.watchers i ≡ f
          → MatchOption f (NoCalls outcomes.NoSuchParty w o new)
          (λ f. (n : LinkView) × (f' : WatcherView)
          × FollowerTickCalls WatcherTicks link_honest (parties w) w.link f o n f'
          × (new ≡ record w { link = n; watchers = slice_set w.watchers i f' }))
          → AllKeepWhatWasShown new
      at None is k = stays k.1
      at (Some f) is k =
          at_watcher i k.0 k.1 k.3
          (subst (λ (x : WatcherView). KeepsWhatWasShown w.id w.terms w.link.sent (first_watcher + i) x.follower)
          (sym k.2.1.after) (kept.watchers i f is))

  -- ---- restarts

  restart_at_referee : (party : ℕ) (o : Outcome) → RestartCalls keepers_honest w roles.Referee party o new
      → AllKeepWhatWasShown new
  restart_at_referee party o h = at_referee w.link h.0 h.1 h.3

  restart_at_seat : (q : Player) (party : ℕ) (o : Outcome) → RestartCalls keepers_honest w (roles.Seat q) party o new
      → AllKeepWhatWasShown new
  restart_at_seat q party o h =
      at_keeper q h.0 h.1 h.3
      (comes_back w.id w.terms w.link.sent q (fresh_seat q w.id w.terms) refl h.2.0 o h.1 h.2.2)

  restart_at_watcher : (i party : ℕ) (o : Outcome) → RestartCalls keepers_honest w (roles.Watcher i) party o new
      → AllKeepWhatWasShown new
  restart_at_watcher i party o h = at (slice_get w.watchers i) h
    where
      at : (f : Option WatcherView)
          → MatchOption f (NoCalls outcomes.NoSuchParty w o new)
          (λ f. (o ≡ outcomes.Restarted) × (new ≡ record w {
            watchers = slice_set w.watchers i
                (fresh_watcher party w.id w.terms);
          }))
          → AllKeepWhatWasShown new
      at None k = stays k.1
      at (Some f) k =
          at_watcher i w.link (fresh_watcher party w.id w.terms) k.1
          (none_kept w.id w.terms w.link.sent (first_watcher + i) (fresh_watcher party w.id w.terms).follower refl)

  -- ---- each event

  takes : (party pick word : ℕ) (o : Outcome) → TakeCalls link_honest w (role party) party pick word o new
      → AllKeepWhatWasShown new
  takes zero pick word o h = take_at_referee 0 pick word o h
  takes (suc zero) pick word o h = take_at_seat X pick word o h
  takes (suc (suc zero)) pick word o h = take_at_seat O pick word o h
  takes (suc (suc (suc i))) pick word o h = take_at_watcher i (suc (suc (suc i))) pick word o (omega arith) h

  saves : (party : ℕ) (o : Outcome) → SaveCalls keepers_honest w (role party) o new → AllKeepWhatWasShown new
  saves zero o h = save_at_referee o h
  saves (suc zero) o h = save_at_seat X o h
  saves (suc (suc zero)) o h = save_at_seat O o h
  saves (suc (suc (suc i))) o h = stays h.1

  ticks : (party : ℕ) (o : Outcome) → TickCalls link_honest w (role party) o new → AllKeepWhatWasShown new
  ticks zero o h = tick_at_referee o h
  ticks (suc zero) o h = tick_at_seat X o h
  ticks (suc (suc zero)) o h = tick_at_seat O o h
  ticks (suc (suc (suc i))) o h = tick_at_watcher i o h

  restarts : (party : ℕ) (o : Outcome) → RestartCalls keepers_honest w (role party) party o new
      → AllKeepWhatWasShown new
  restarts zero o h = restart_at_referee 0 o h
  restarts (suc zero) o h = restart_at_seat X 1 o h
  restarts (suc (suc zero)) o h = restart_at_seat O 2 o h
  restarts (suc (suc (suc i))) o h = restart_at_watcher i (suc (suc (suc i))) o h

  pub still_keep : (e : Event) (o : Outcome) → Calls link_honest keepers_honest w e o new → AllKeepWhatWasShown new
  still_keep (events.Due word) o h = due word o h
  still_keep (events.Take party pick word) o h = takes party pick word o h
  still_keep (events.Choose q a) o h = choose q a o h
  still_keep (events.Save party) o h = saves party o h
  still_keep (events.Tick party) o h = ticks party o h
  still_keep (events.Restart party) o h = restarts party o h
