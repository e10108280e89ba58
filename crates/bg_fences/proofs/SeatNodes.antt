-- What a node of a seat does, and of a watcher, is what the law of processes says.
use Rattle.std.specs.Prelude.{◌≡◌, ◌⊎◌, ℕ, ◌+◌, ◌-◌, ◌<◌, ◌≤◌, true, false, Bool, ⊤, Option, Some, None, List, Result, Ok, Err, length, if◌then◌else◌}
use Rattle.std.specs.List.{AllByRecursion}
use Rattle.std.specs.Global.{Vec}
use Rattle.std.proofs.Common.{refl, sym, ◌∙◌, ap, ap₂, subst, inl, inr, arith}
use Rattle.bg_board.specs.declared.players.Player.{Player}
use Rattle.bg_board.specs.declared.players.Player.TheVariants.{X, O}
use Rattle.bg_match.specs.Terms.{Terms}
use Rattle.bg_match.specs.declared.entries.Entry.{Entry}
use Rattle.bg_match.specs.declared.actions.Action.{Action}
use Rattle.bg_party.specs.Claims.{CanClaim, SeatChooses, SeatTicks, WatcherTicks, packet_of_seat, want_of}
use Rattle.bg_party.specs.Retry.{is_due}
use Rattle.bg_party.specs.Views.{SeatView, WatcherView, seat_after_save, resumed_seat, fresh_seat, player_of}
use Rattle.bg_party.specs.declared.outcomes.ChooseFault.{ChooseFault}
use Rattle.bg_wire.specs.Packets.PacketText.{IsPacket}
use Rattle.bg_wire.specs.Parties.{party_of}
use Rattle.bg_wire.specs.Entries.Codes.{first_watcher, referee}
use Rattle.bg_wire.specs.Saved.Restoring.{SlotsRestore}
use Rattle.bg_wire.specs.Saved.SavedText.{SavedParts, parts_of}
use Rattle.bg_wire.specs.Saved.SlotLaws.{Slots}
use Rattle.bg_wire.specs.declared.faults.SaveRefusal.{SaveRefusal}
use Rattle.bg_wire.specs.declared.faults.SaveRefusal.TheVariants as save_refusals
use Rattle.bg_wire.specs.declared.packets.Datagram.{Datagram}
use Rattle.bg_wire.specs.declared.packets.Packet.{Packet}
use Rattle.bg_wire.specs.declared.saves.Saved.{Saved}
use Rattle.bg_wire.specs.declared.saves.slots.Slot.{Slot}
use Rattle.bg_wire.proofs.OfSaves.OneText.{restores_once}
use Rattle.bg_protocol.specs.Devices.DeviceCalls.{datagram_of}
use Rattle.bg_protocol.specs.Devices.KeeperCalls.{SaveCallsAt, SaveGoesOn, SaveTold, RestartCallsAt, ComesUp}
use Rattle.bg_protocol.specs.Devices.LinkCalls.{FollowerTickCalls, SendCalls, to_referee}
use Rattle.bg_protocol.specs.Protocol.ChooseStep.{ChooseStep}
use Rattle.bg_protocol.specs.Protocol.Datagrams.{Carries}
use Rattle.bg_protocol.specs.Protocol.SaveStep.{to_save_seat}
use Rattle.bg_protocol.specs.Protocol.Slots.{next_number, SaveWritten, SaveTorn}
use Rattle.bg_protocol.specs.Protocol.State.{ProtocolState}
use Rattle.bg_protocol.specs.Protocol.TickStep.{SendsOnTick, want_packet, seat_packet}
use Rattle.bg_protocol.specs.Worlds.Calls.{seat_parts}
use Rattle.bg_protocol.specs.Worlds.Views.{KeeperView, LinkView}
use Rattle.bg_protocol.specs.Worlds.WorldState.{IsLogOf, KeepsWhatWasShown}
use Rattle.bg_protocol.specs.declared.devices.DeviceFault.{DeviceFault}
use Rattle.bg_protocol.specs.declared.events.Outcome.{Outcome}
use Rattle.bg_protocol.specs.declared.events.Outcome.TheVariants as outcomes
use Rattle.bg_protocol.proofs.Protocol.EarlyEntries.{none_kept}
use Rattle.bg_protocol.proofs.Protocol.Saving.{SlotsOk}
use Rattle.bg_protocol.proofs.Steps.Hands.{carries}
use Rattle.bg_protocol.proofs.Steps.SaveCases.{IsSaved, written, torn, spent, no_memory as save_no_memory, is_saved}
use Rattle.bg_protocol.proofs.Steps.SendCases.{Went, sends_all, ticks_row}
use Rattle.bg_fences.specs.SharedMatches.{Stored, seat_as_seen}
use Rattle.bg_fences.specs.SharedNodes.{IsFenced, IsNextAt, IsRefused, process_of_seat}
use Rattle.bg_fences.proofs.Invariant.{seat_from}
use Rattle.bg_fences.proofs.SlotReads.{IsFound, empty, finds, given, not_found}

-- what a core of a seat knows beside its process
pub record IsSeatCoreOf (id : ℕ) (terms : Terms) (sent : List Datagram) (q : Player) (s : SeatView) : Type 0 where
  pub sits_for : s.player ≡ q
  pub log : IsLogOf id terms s.follower.log
  pub numbered : 1 ≤ s.next_save
  pub early : KeepsWhatWasShown id terms sent (party_of q) s.follower

-- ---- choosing

module _ (id : ℕ) (terms : Terms) (sent : List Datagram) (q : Player) (a : Action) (k : Stored) (s : SeatView) (fits : IsSeatCoreOf id terms sent q s) where
  can : CanClaim s.follower.log.terms s.player s.follower.log.entries s.claim a → CanClaim terms q s.follower.log.entries s.claim a
  can h =
      subst (λ (t : Terms). CanClaim t q s.follower.log.entries s.claim a) fits.log.1
      (subst (λ (p : Player). CanClaim s.follower.log.terms p s.follower.log.entries s.claim a) fits.sits_for h)

  can_not : (CanClaim s.follower.log.terms s.player s.follower.log.entries s.claim a → ⊥) → CanClaim terms q s.follower.log.entries s.claim a → ⊥
  can_not refuse h =
      refuse (subst (λ (t : Terms). CanClaim t s.player s.follower.log.entries s.claim a) (sym fits.log.1)
      (subst (λ (p : Player). CanClaim terms p s.follower.log.entries s.claim a) (sym fits.sits_for) h))

  pub chose : (told : Result ℕ ChooseFault) (s' : SeatView) → SeatChooses s a told s'
      → ChooseStep terms q a (outcomes.Chose told) (seat_as_seen k (process_of_seat s)) (seat_as_seen k (process_of_seat s')) × IsSeatCoreOf id terms sent q s'
      × ((process_of_seat s').last_save ≡ (process_of_seat s).last_save)
  chose (Ok n) s' h =
      let e = h.chooses.1 in
      let c = h.chooses.0 in (
        (can c.0, c.1, ap (λ (x : SeatView). seat_as_seen k (process_of_seat x)) e),
        subst (IsSeatCoreOf id terms sent q) (sym e) (record { sits_for = fits.sits_for; log = fits.log; numbered = fits.numbered; early = fits.early }),
        ap (λ (x : SeatView). (process_of_seat x).last_save) e,
      )
  chose (Err why) s' h =
      let e = h.chooses.1 in (
        (can_not (λ c. let ok = h.can.1 c in absurd cc), ap (λ (x : SeatView). seat_as_seen k (process_of_seat x)) e),
        subst (IsSeatCoreOf id terms sent q) (sym e) fits,
        ap (λ (x : SeatView). (process_of_seat x).last_save) e,
      )

-- ---- ticks of followers

may_send_when : (due : Bool) (many : ℕ) (p : Packet) (may : Datagram → Type 0) → (IsPacket p → may (datagram_of referee p))
    → AllByRecursion (λ q. q.0 < many → IsPacket q.1 → may (datagram_of q.0 q.1)) (to_referee (if due then Some p else None))
may_send_when true many p may h = (λ low range. h range, tt)
may_send_when false many p may h = tt

one_at_most : (due : Bool) (p : Packet) → length (to_referee (if due then Some p else None)) ≤ 1
one_at_most true p = omega arith
one_at_most false p = omega arith

-- a follower that sends this packet, where it is due
sends_due : (many : ℕ) (w v : ProtocolState) (old new : LinkView) (o : Outcome) (due : Bool) (p q : Packet) → p ≡ q → old.sent ≡ w.sent
    → v ≡ record w { sent = new.sent } → SendCalls ⊤ many 0 old (to_referee (if due then Some p else None)) o new
    → SendsOnTick (λ d. Carries d referee q) 1 w o v
sends_due many w v old new o due p q is same after h =
    let may : Datagram → Type 0 = λ d. Carries d referee q in
    let went = sends_all ⊤ tt many may 0 old (to_referee (if due then Some p else None)) o new
    (may_send_when due many p may (λ range. subst (λ (x : Packet). Carries (datagram_of referee p) referee x) is (carries referee p range))) h in
    let went2 = subst (λ (s : List Datagram). Went may 0 (length (to_referee (if due then Some p else None))) s new.sent o) same went in
    ticks_row may (length (to_referee (if due then Some p else None))) w v new.sent o 1 (one_at_most due p) went2 after

seat_sends : (s : SeatView) (claim : Option (ℕ × Action)) (saved : Bool)
    → packet_of_seat (record s { claim = claim; claim_saved = saved }) ≡ seat_packet s.follower.log.id s.follower.log.terms
    (party_of s.player) s.follower.log.entries claim saved
seat_sends s None saved = refl
seat_sends s (Some c) true = refl
seat_sends s (Some c) false = refl

same_packet : (id : ℕ) (terms : Terms) (sent : List Datagram) (q : Player) (s : SeatView) → IsSeatCoreOf id terms sent q s
    → packet_of_seat s ≡ seat_packet id terms (party_of q) s.follower.log.entries s.claim s.claim_saved
same_packet id terms sent q s fits =
    seat_sends s s.claim s.claim_saved
    ∙ ap (λ (t : Terms). seat_packet s.follower.log.id t (party_of s.player) s.follower.log.entries s.claim s.claim_saved) fits.log.1
    ∙ ap₂ (λ (i : ℕ) (p : Player). seat_packet i terms (party_of p) s.follower.log.entries s.claim s.claim_saved) fits.log.0 fits.sits_for

pub seat_ticks : (id : ℕ) (terms : Terms) (sent : List Datagram) (q : Player) (many : ℕ) (w v : ProtocolState) (old new : LinkView) (o : Outcome) (s s' : SeatView)
    → IsSeatCoreOf id terms sent q s → old.sent ≡ w.sent → v ≡ record w { sent = new.sent }
    → FollowerTickCalls SeatTicks ⊤ many old s o new s'
    → SendsOnTick (λ d. Carries d referee (seat_packet id terms (party_of q) s.follower.log.entries s.claim s.claim_saved)) 1 w o v
    × IsSeatCoreOf id terms sent q s' × (process_of_seat s' ≡ process_of_seat s)
seat_ticks id terms sent q many w v old new o s s' fits same after h =
    let ticks = h.1 in
    let due = is_due s.follower.retry in
    let one = subst (λ (x : Option Packet). SendCalls ⊤ many 0 old (to_referee x) o new) ticks.packet h.2 in (
      sends_due many w v old new o due (packet_of_seat s) (seat_packet id terms (party_of q) s.follower.log.entries s.claim s.claim_saved)
          (same_packet id terms sent q s fits) same after one,
      subst (IsSeatCoreOf id terms sent q) (sym ticks.after) (record { sits_for = fits.sits_for; log = fits.log; numbered = fits.numbered; early = fits.early }),
      ap process_of_seat ticks.after,
    )

-- what a core of a watcher knows beside its process
pub record IsWatcherCoreOf (id : ℕ) (terms : Terms) (sent : List Datagram) (index : ℕ) (f : WatcherView) : Type 0 where
  pub party : f.party ≡ first_watcher + index
  pub log : IsLogOf id terms f.follower.log
  pub early : KeepsWhatWasShown id terms sent (first_watcher + index) f.follower

pub watcher_ticks : (id : ℕ) (terms : Terms) (sent : List Datagram) (index many : ℕ) (w v : ProtocolState) (old new : LinkView) (o : Outcome) (f f' : WatcherView)
    → IsWatcherCoreOf id terms sent index f → old.sent ≡ w.sent → v ≡ record w { sent = new.sent }
    → FollowerTickCalls WatcherTicks ⊤ many old f o new f'
    → SendsOnTick (λ d. Carries d referee (want_packet id terms (first_watcher + index) f.follower.log.entries)) 1 w o v
    × IsWatcherCoreOf id terms sent index f' × (f'.follower.log.entries ≡ f.follower.log.entries)
watcher_ticks id terms sent index many w v old new o f f' fits same after h =
    let ticks = h.1 in
    let log = f.follower.log in
    let is : want_of f.party log ≡ want_packet id terms (first_watcher + index) log.entries =
    ap (λ (t : Terms). want_packet log.id t f.party log.entries) fits.log.1
    ∙ ap₂ (λ (a b : ℕ). want_packet a terms b log.entries) fits.log.0 fits.party in
    let one = subst (λ (x : Option Packet). SendCalls ⊤ many 0 old (to_referee x) o new) ticks.packet h.2 in (
      sends_due many w v old new o (is_due f.follower.retry) (want_of f.party log) (want_packet id terms (first_watcher + index) log.entries) is same after one,
      subst (IsWatcherCoreOf id terms sent index) (sym ticks.after) (record { party = fits.party; log = fits.log; early = fits.early }),
      ap (λ (x : WatcherView). x.follower.log.entries) ticks.after,
    )

-- ---- saving

make_parts : ℕ → Option (ℕ × Action) → List Entry → ℕ → Terms → ℕ → SavedParts
make_parts party claim entries id terms save = record {
  party = party;
  id = id;
  terms = terms;
  save = save;
  claim = claim;
  entries = entries;
}

abbrev pub seat_save : ℕ → Terms → Player → Stored → SeatView → SavedParts
seat_save id terms q k s = to_save_seat id terms q (seat_as_seen k (process_of_seat s))

same_parts : (id : ℕ) (terms : Terms) (sent : List Datagram) (q : Player) (k : Stored) (s : SeatView) → IsSeatCoreOf id terms sent q s
    → s.next_save ≡ next_number k.restorable → seat_parts s ≡ seat_save id terms q k s
unfolding make_parts
same_parts id terms sent q k s fits next =
    let log = s.follower.log in
    ap (λ (p : Player). make_parts (party_of p) s.claim log.entries log.id log.terms s.next_save) fits.sits_for
    ∙ ap₂ (λ (a : ℕ) (b : Terms). make_parts (party_of q) s.claim log.entries a b s.next_save) fits.log.0 fits.log.1
    ∙ ap (λ (n : ℕ). make_parts (party_of q) s.claim log.entries id terms n) next

newest : (id : ℕ) (terms : Terms) (q : Player) (k : Stored) (slots : Slots) (s : SeatView) → slots ≡ k.slots → SlotsOk id terms (party_of q) k.slots k.restorable
    → IsNextAt slots s.next_save → s.next_save ≡ next_number k.restorable
newest id terms q k slots s same ok h =
    let restore = subst (λ (x : Slots). SlotsRestore x.zero x.one h.0) same h.1 in
    h.2 ∙ ap next_number (restores_once k.slots.zero k.slots.one h.0 k.restorable restore ok.written.restore)

pub data SeatComes (id : ℕ) (terms : Terms) (q : Player) (k : Stored) (s : SeatView) (o : Outcome) (slots : Slots) (after : Option SeatView) : Type 0 where
  whole : s.next_save ≡ next_number k.restorable → o ≡ outcomes.Saved s.next_save → after ≡ Some (seat_after_save s s.next_save)
      → SaveWritten (seat_save id terms q k s) k.slots slots (Some (seat_save id terms q k s)) → SeatComes id terms q k s o slots after
  part : (left : Option SavedParts) → s.next_save ≡ next_number k.restorable → o ≡ outcomes.SaveFault → after ≡ None
      → SaveTorn (seat_save id terms q k s) k.slots slots left → SeatComes id terms q k s o slots after
  refused : o ≡ outcomes.SaveFault → after ≡ None → slots ≡ k.slots → SeatComes id terms q k s o slots after
  nothing_saved : slots ≡ k.slots → after ≡ Some s → (o ≡ outcomes.SavesSpent) ⊎ (o ≡ outcomes.Memory) → SeatComes id terms q k s o slots after

pub seat_saves_to : (id : ℕ) (terms : Terms) (sent : List Datagram) (q : Player) (k : Stored) (s : SeatView) (keeper new : KeeperView) (o : Outcome) (after : Option SeatView)
    → IsSeatCoreOf id terms sent q s → SlotsOk id terms (party_of q) k.slots k.restorable → keeper.slots ≡ k.slots
    → SaveCallsAt seat_parts seat_after_save ⊤ keeper (Some s) o new after → IsFenced keeper.slots s.next_save o new.slots
    → SeatComes id terms q k s o new.slots after
seat_saves_to id terms sent q k s keeper new o after fits ok same h (inl next) =
    of (is_saved seat_parts seat_after_save ⊤ tt s id terms (party_of q) keeper k.restorable
    (subst (λ (x : Slots). SlotsOk id terms (party_of q) x k.restorable) (sym same) ok) (seat_save id terms q k s) (same_parts id terms sent q k s fits number)
    (record { party = refl; id = refl; terms = refl }) refl o new after h)
  where
    number : s.next_save ≡ next_number k.restorable
    number = newest id terms q k keeper.slots s same ok next

    of : IsSaved (seat_save id terms q k s) keeper.slots s (seat_after_save s (next_number k.restorable)) o new.slots after → SeatComes id terms q k s o new.slots after
    of (written e f w) =
        whole number (e ∙ ap (λ (n : ℕ). outcomes.Saved n) (sym number)) (f ∙ ap (λ (n : ℕ). Some (seat_after_save s n)) (sym number))
        (subst (λ (x : Slots). SaveWritten (seat_save id terms q k s) x new.slots (Some (seat_save id terms q k s))) same w)
    of (torn left e f t) = part left number e f (subst (λ (x : Slots). SaveTorn (seat_save id terms q k s) x new.slots left) same t)
    of (spent e f g) = nothing_saved (f ∙ same) g (inl e)
    of (save_no_memory e f g) = nothing_saved (f ∙ same) g (inr e)
seat_saves_to id terms sent q k s keeper new o after fits ok same h (inr stale) = at h.0 h.2
  where
    told : (answer : Result (Unit {0}) DeviceFault) (save : ℕ) → SaveTold save (seat_after_save s save) answer o after → SeatComes id terms q k s o new.slots after
    told (Ok done) save t = absurd (subst (λ (x : Outcome). IsRefused keeper.slots x new.slots) t.0 stale)
    told (Err why) save t = refused t.0 t.1 ((subst (λ (x : Outcome). IsRefused keeper.slots x new.slots) t.0 stale) ∙ same)

    at : (next : Result (Slot × ℕ × Vec ℕ) SaveRefusal) → SaveGoesOn seat_after_save ⊤ keeper s next o new after → SeatComes id terms q k s o new.slots after
    at (Ok x) g = told g.0 x.1 g.2
    at (Err save_refusals.SavesSpent) g = nothing_saved (ap (λ (x : KeeperView). x.slots) g.1 ∙ same) g.2 (inl g.0)
    at (Err save_refusals.Memory) g = nothing_saved (ap (λ (x : KeeperView). x.slots) g.1 ∙ same) g.2 (inr g.0)

-- ---- restarting

pub data SeatComesBack (id : ℕ) (terms : Terms) (sent : List Datagram) (q : Player) (read : Slots) (after : Option SeatView) : Type 0 where
  up : (s : SeatView) (found : Option SavedParts) → SlotsRestore read.zero read.one found → after ≡ Some s → process_of_seat s ≡ seat_from found → IsSeatCoreOf id terms sent q s
      → SeatComesBack id terms sent q read after
  down : after ≡ None → SeatComesBack id terms sent q read after

player_back : (q : Player) (party : ℕ) → party ≡ party_of q → player_of party ≡ q
player_back X party e = ap player_of e
player_back O party e = ap player_of e

pub seat_restarts_to : (id : ℕ) (terms : Terms) (sent : List Datagram) (q : Player) (keeper new : KeeperView) (o : Outcome) (after : Option SeatView)
    → RestartCallsAt resumed_seat (fresh_seat q id terms) ⊤ (party_of q) id terms keeper o new after → SeatComesBack id terms sent q keeper.slots after
seat_restarts_to id terms sent q keeper new o after h = of (finds (party_of q) id terms keeper new h.0 h.1) h.2
  where
    number : (n : ℕ) → n + 1 - 1 ≡ n
    number n = omega arith

    of : IsFound (party_of q) id terms keeper.slots h.0 → ComesUp resumed_seat (fresh_seat q id terms) h.0 o after → SeatComesBack id terms sent q keeper.slots after
    of (given s restore is f) g =
        let u = subst (λ (x : Result (Option Saved) Outcome). ComesUp resumed_seat (fresh_seat q id terms) x o after) f g in
        up (resumed_seat s) (Some (parts_of s)) restore u.1
        (ap (λ (n : ℕ). record { log = s.log.entries; claim = s.claim; claim_saved = true; last_save = n }) (number s.save))
        (record {
          sits_for = player_back q s.party is.party;
          log = (is.id, is.terms);
          numbered = omega arith;
          early = none_kept id terms sent (party_of q) (resumed_seat s).follower refl;
        })
    of (empty restore f) g =
        let u = subst (λ (x : Result (Option Saved) Outcome). ComesUp resumed_seat (fresh_seat q id terms) x o after) f g in
        up (fresh_seat q id terms) None restore u.1 refl
        (record {
          sits_for = refl;
          log = (refl, refl);
          numbered = omega arith;
          early = none_kept id terms sent (party_of q) (fresh_seat q id terms).follower refl;
        })
    of (not_found why f) g =
        let u = subst (λ (x : Result (Option Saved) Outcome). ComesUp resumed_seat (fresh_seat q id terms) x o after) f g in down u.1
