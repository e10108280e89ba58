-- What a node of the referee does is what the law of processes says, however old what it holds is.
use Rattle.std.specs.Prelude.{◌≡◌, ◌⊎◌, ℕ, suc, ◌+◌, ◌-◌, ◌<◌, true, false, Bool, ⊤, Option, Some, None, List, [], ◌∷◌, ◌++◌, Result, Ok, Err, length, nat_lt}
use Rattle.std.specs.Bool.{MatchBool}
use Rattle.std.specs.List.{AllByRecursion}
use Rattle.std.specs.Global.{Vec}
use Rattle.std.proofs.Common.{refl, sym, ◌∙◌, ap, ap₂, subst, inl, inr, arith}
use Rattle.std.proofs.lemmas.Bool.Decides.{nat_tests}
use Rattle.std.proofs.lemmas.List.{length-replicate}
use Rattle.std.proofs.lemmas.List.Elements.{recursion_from_All}
use Rattle.bg_board.specs.declared.players.Player.{Player}
use Rattle.bg_board.specs.declared.players.Player.TheVariants.{X, O}
use Rattle.bg_match.specs.Terms.{Terms, rules_of}
use Rattle.bg_match.specs.declared.entries.Entry.{Entry}
use Rattle.bg_match.specs.declared.actions.Action.{Action}
use Rattle.bg_referee.specs.Claims.{Accepts, Grants, IsAccepted}
use Rattle.bg_referee.specs.Dues.{IsDue, RefereeDues}
use Rattle.bg_referee.specs.Referee.{RefereeView, Appends, with_sessions_of, referee_after_save, resumed_referee, fresh_referee}
use Rattle.bg_referee.specs.Takes.{AnswerFits, AnswersSender, IsSentBy, TellsSaved}
use Rattle.bg_referee.specs.declared.outcomes.DueFault.{DueFault}
use Rattle.bg_referee.specs.declared.outcomes.TakeOutcome.{TakeOutcome}
use Rattle.bg_referee.specs.declared.outcomes.TakeOutcome.TheVariants as takes
use Rattle.bg_referee.proofs.Rounds.{few_sent}
use Rattle.bg_wire.specs.Packets.PacketText.{IsPacket}
use Rattle.bg_wire.specs.Parties.{party_of}
use Rattle.bg_wire.specs.Entries.Codes.{first_watcher}
use Rattle.bg_wire.specs.Saved.Restoring.{SlotsRestore}
use Rattle.bg_wire.specs.Saved.SavedText.{SavedParts, parts_of}
use Rattle.bg_wire.specs.Saved.SlotLaws.{Slots}
use Rattle.bg_wire.specs.declared.faults.SaveRefusal.{SaveRefusal}
use Rattle.bg_wire.specs.declared.faults.SaveRefusal.TheVariants as save_refusals
use Rattle.bg_wire.specs.declared.packets.Datagram.{Datagram}
use Rattle.bg_wire.specs.declared.packets.Packet.{Packet}
use Rattle.bg_wire.specs.declared.packets.Packet.TheVariants as packet
use Rattle.bg_wire.specs.declared.saves.Saved.{Saved}
use Rattle.bg_wire.specs.declared.saves.slots.Slot.{Slot}
use Rattle.bg_wire.proofs.OfSaves.OneText.{restores_once}
use Rattle.bg_protocol.specs.Devices.DeviceCalls.{Posts, Receives, datagram_of, link_outcome}
use Rattle.bg_protocol.specs.Devices.Honesty.{Sends as LinkSends}
use Rattle.bg_protocol.specs.Devices.KeeperCalls.{SaveCallsAt, SaveGoesOn, SaveTold, RestartCallsAt, ComesUp}
use Rattle.bg_protocol.specs.Devices.LinkCalls.{AnswerCalls, ComesTo, RefereeHandles, RefereeTakeCalls, RefereeTickCalls}
use Rattle.bg_protocol.specs.Promises.Refusals.{IsSound}
use Rattle.bg_protocol.specs.Protocol.Datagrams.{WasSent}
use Rattle.bg_protocol.specs.Protocol.DueStep.{DueStep, with_entry}
use Rattle.bg_protocol.specs.Protocol.Frames.{SendsAtMost}
use Rattle.bg_protocol.specs.Protocol.RefereeTakeStep.{AcceptsNone, IsOfSaved, RefereeTakeStep, ReplyStep, ShowsSaved}
use Rattle.bg_protocol.specs.Protocol.SaveStep.{to_save_referee}
use Rattle.bg_protocol.specs.Protocol.Slots.{next_number, SaveWritten, SaveTorn}
use Rattle.bg_protocol.specs.Protocol.State.{ProtocolState, Exists}
use Rattle.bg_protocol.specs.Protocol.TickStep.{SendsOnTick}
use Rattle.bg_protocol.specs.Worlds.Calls.{referee_parts}
use Rattle.bg_protocol.specs.Worlds.Views.{KeeperView, LinkView}
use Rattle.bg_protocol.specs.Worlds.WorldState.{IsLogOf}
use Rattle.bg_protocol.specs.declared.devices.DeviceFault.{DeviceFault}
use Rattle.bg_protocol.specs.declared.devices.DeviceFault.TheVariants as faults
use Rattle.bg_protocol.specs.declared.events.Outcome.{Outcome}
use Rattle.bg_protocol.specs.declared.events.Outcome.TheVariants as outcomes
use Rattle.bg_protocol.proofs.Protocol.Invariant.{Inv}
use Rattle.bg_protocol.proofs.Protocol.Saving.{SlotsOk}
use Rattle.bg_protocol.proofs.Steps.Hands.{IsEmptyHand, fault, memory, nothing, no_packet, empty_hand, carries, grows_none, grows_one}
use Rattle.bg_protocol.proofs.Steps.SaveCases.{IsSaved, written, torn, spent, no_memory as save_no_memory, is_saved}
use Rattle.bg_protocol.proofs.Steps.SendCases.{Went, sends_all, ticks_row}
use Rattle.bg_fences.specs.SharedMatches.{SharedMatch, at_rest, seen_by_referee}
use Rattle.bg_fences.specs.ProcessCalls.{IsNewest}
use Rattle.bg_fences.specs.SharedNodes.{IsFenced, IsNextAt, IsRefused, process_of_referee}
use Rattle.bg_fences.proofs.Invariant.{referee_from}
use Rattle.bg_fences.proofs.SlotReads.{IsFound, empty, finds, given, not_found}

-- what a core knows beside its process: its match, and that its next save has a number
pub record IsCoreOf (id : ℕ) (terms : Terms) (last_save : ℕ) (core : RefereeView) : Type 0 where
  pub log : IsLogOf id terms core.log
  pub numbered : core.next_save ≡ suc last_save

-- the state of the protocol in which a core acts, with these datagrams
abbrev pub state_of : SharedMatch → List Datagram → RefereeView → ProtocolState
state_of m sent core = record (seen_by_referee m (process_of_referee core)) { sent = sent }

same_state : (m : SharedMatch) (sent new : List Datagram) (r r' : RefereeView) → new ≡ sent → r' ≡ r → state_of m new r' ≡ state_of m sent r
same_state m sent new r r' e f = ap₂ (state_of m) e f

grown_state : (m : SharedMatch) (sent new : List Datagram) (r r' : RefereeView) (e : Entry) → new ≡ sent → Appends r e r'
    → state_of m new r' ≡ with_entry (state_of m sent r) e
grown_state m sent new r r' e same a = ap₂ (state_of m) same a.grown

grew : (id : ℕ) (terms : Terms) (last_save : ℕ) (r : RefereeView) (e : Entry) (r' : RefereeView) → Appends r e r' → IsCoreOf id terms last_save r → IsCoreOf id terms last_save r'
grew id terms last_save r e r' a fits = record {
  log = (ap (λ (x : RefereeView). x.log.id) a.grown ∙ fits.log.0, ap (λ (x : RefereeView). x.log.terms) a.grown ∙ fits.log.1);
  numbered = ap (λ (x : RefereeView). x.next_save) a.grown ∙ fits.numbered;
}

-- ---- due

pub due_told : (m : SharedMatch) (last_save word : ℕ) (r r' : RefereeView) (told : Result ℕ DueFault) → IsCoreOf m.id m.terms last_save r → RefereeDues r word told r'
    → DueStep (state_of m m.sent r) word (outcomes.Due told) (state_of m m.sent r') × IsCoreOf m.id m.terms last_save r'
due_told m last_save word r r' (Ok n) fits h =
    let d = h.dues in (
      (
        d.1.0,
        subst (λ (t : Terms). IsDue t r.log.entries word d.1.0) fits.log.1 d.1.1,
        grown_state m m.sent m.sent r r' d.1.0 refl d.1.2,
        d.0,
      ),
      grew m.id m.terms last_save r d.1.0 r' d.1.2 fits,
    )
due_told m last_save word r r' (Err f) fits h =
    let d = h.dues in (
      (
        λ aside e o. h.only aside e (subst (λ (t : Terms). IsDue t r.log.entries word e) (sym fits.log.1) o),
        same_state m m.sent m.sent r r' refl d.1,
      ),
      subst (IsCoreOf m.id m.terms last_save) (sym d.1) fits,
    )

-- ---- what it tells

of_saved : (m : SharedMatch) (last_save : ℕ) (r : RefereeView) → IsCoreOf m.id m.terms last_save r → (answer : Packet) → TellsSaved r answer → IsOfSaved (state_of m m.sent r) answer
of_saved m last_save r fits (packet.Entries id rules start list) h = ((h.0.0 ∙ fits.log.0, h.0.1 ∙ ap rules_of fits.log.1), h.1.run)
of_saved m last_save r fits (packet.Want id rules sender held) h = absurd h
of_saved m last_save r fits (packet.Claim id rules sender n a) h = absurd h

may_push : (m : SharedMatch) (last_save : ℕ) (r : RefereeView) → IsCoreOf m.id m.terms last_save r → (packets : List (ℕ × Packet)) → AllByRecursion (λ push. TellsSaved r push.1) packets
    → AllByRecursion (λ push. push.0 < first_watcher + m.watchers → IsPacket push.1
    → Exists (state_of m m.sent r) push.0 × ShowsSaved (state_of m m.sent r) (datagram_of push.0 push.1)) packets
may_push m last_save r fits [] tells = tt
may_push m last_save r fits (push ∷ rest) tells = (
  λ low range. (
    (let none : List Entry = [] in let k = length-replicate m.watchers none in omega (low, k, arith)),
    (push.1, carries push.0 push.1 range, of_saved m last_save r fits push.1 tells.0),
  ),
  may_push m last_save r fits rest tells.1,
)

pub tick_row : (m : SharedMatch) (last_save : ℕ) (r r' : RefereeView) (old new : LinkView) (o : Outcome) → IsCoreOf m.id m.terms last_save r → old.sent ≡ m.sent
    → RefereeTickCalls ⊤ (first_watcher + m.watchers) old r o new r'
    → SendsOnTick (λ d. Exists (state_of m m.sent r) d.to × ShowsSaved (state_of m m.sent r) d) 2 (state_of m m.sent r) o (state_of m new.sent r')
    × IsCoreOf m.id m.terms last_save r'
tick_row m last_save r r' old new o fits same h =
    let packets = h.0 in
    let ticks = h.1 in
    let before = state_of m m.sent r in
    let tells = recursion_from_All (λ push. TellsSaved r push.1) packets ticks.tells in
    let went = sends_all ⊤ tt (first_watcher + m.watchers) (λ d. Exists before d.to × ShowsSaved before d) 0 old packets o new (may_push m last_save r fits packets tells) h.2 in
    let went2 = subst (λ (s : List Datagram). Went (λ d. Exists before d.to × ShowsSaved before d) 0 (length packets) s new.sent o) same went in (
      ticks_row (λ d. Exists before d.to × ShowsSaved before d) (length packets) before (state_of m new.sent r') new.sent o 2 (few_sent r r' packets ticks) went2
          (ap (state_of m new.sent) ticks.after),
      subst (IsCoreOf m.id m.terms last_save) (sym ticks.after) (record { log = fits.log; numbered = fits.numbered }),
    )

-- ---- saving

make_parts : ℕ → Option (ℕ × Action) → List Entry → ℕ → Terms → ℕ → SavedParts
make_parts party claim entries id terms save = record {
  party = party;
  id = id;
  terms = terms;
  save = save;
  claim = claim;
  entries = entries;
}

same_parts : (m : SharedMatch) (last_save : ℕ) (r : RefereeView) → IsCoreOf m.id m.terms last_save r → r.next_save ≡ next_number m.referee.restorable
    → referee_parts r ≡ to_save_referee (state_of m m.sent r)
unfolding make_parts
same_parts m last_save r fits next =
    ap₂ (λ (a : ℕ) (b : Terms). make_parts 0 None r.log.entries a b r.next_save) fits.log.0 fits.log.1
    ∙ ap (λ (n : ℕ). make_parts 0 None r.log.entries m.id m.terms n) next

-- the number is the next one of what the slots restore
pub newest : (m : SharedMatch) (slots : Slots) (r : RefereeView) → slots ≡ m.referee.slots → SlotsOk m.id m.terms 0 m.referee.slots m.referee.restorable
    → IsNextAt slots r.next_save → r.next_save ≡ next_number m.referee.restorable
newest m slots r same ok h =
    let restore = subst (λ (s : Slots). SlotsRestore s.zero s.one h.0) same h.1 in
    h.2 ∙ ap next_number (restores_once m.referee.slots.zero m.referee.slots.one h.0 m.referee.restorable restore ok.written.restore)

pub is_newest : (m : SharedMatch) (r : RefereeView) → r.next_save ≡ next_number m.referee.restorable → IsNewest m.referee.restorable (process_of_referee r).last_save
is_newest m r next = omega (next, arith)

-- what comes of a save of a core: written, torn, refused, or nothing
pub data Comes (m : SharedMatch) (r : RefereeView) (o : Outcome) (slots : Slots) (after : Option RefereeView) : Type 0 where
  whole : r.next_save ≡ next_number m.referee.restorable → o ≡ outcomes.Saved r.next_save → after ≡ Some (referee_after_save r r.next_save)
      → SaveWritten (to_save_referee (state_of m m.sent r)) m.referee.slots slots (Some (to_save_referee (state_of m m.sent r)))
      → Comes m r o slots after
  part : (left : Option SavedParts) → r.next_save ≡ next_number m.referee.restorable → o ≡ outcomes.SaveFault → after ≡ None
      → SaveTorn (to_save_referee (state_of m m.sent r)) m.referee.slots slots left → Comes m r o slots after
  refused : o ≡ outcomes.SaveFault → after ≡ None → slots ≡ m.referee.slots → Comes m r o slots after
  nothing_saved : slots ≡ m.referee.slots → after ≡ Some r → (o ≡ outcomes.SavesSpent) ⊎ (o ≡ outcomes.Memory) → Comes m r o slots after

pub saves_to : (m : SharedMatch) (last_save : ℕ) (r : RefereeView) (keeper new : KeeperView) (o : Outcome) (after : Option RefereeView) → IsCoreOf m.id m.terms last_save r
    → SlotsOk m.id m.terms 0 m.referee.slots m.referee.restorable → keeper.slots ≡ m.referee.slots
    → SaveCallsAt referee_parts referee_after_save ⊤ keeper (Some r) o new after
    → IsFenced keeper.slots r.next_save o new.slots → Comes m r o new.slots after
saves_to m last_save r keeper new o after fits ok same h (inl next) = of (is_saved referee_parts referee_after_save ⊤ tt r m.id m.terms 0 keeper m.referee.restorable
    (subst (λ (s : Slots). SlotsOk m.id m.terms 0 s m.referee.restorable) (sym same) ok) (to_save_referee (state_of m m.sent r)) (same_parts m last_save r fits number)
    (record { party = refl; id = refl; terms = refl }) refl o new after h)
  where
    number : r.next_save ≡ next_number m.referee.restorable
    number = newest m keeper.slots r same ok next

    of : IsSaved (to_save_referee (state_of m m.sent r)) keeper.slots r (referee_after_save r (next_number m.referee.restorable)) o new.slots after → Comes m r o new.slots after
    of (written e f w) =
        whole number (e ∙ ap (λ (n : ℕ). outcomes.Saved n) (sym number)) (f ∙ ap (λ (n : ℕ). Some (referee_after_save r n)) (sym number))
        (subst (λ (s : Slots). SaveWritten (to_save_referee (state_of m m.sent r)) s new.slots (Some (to_save_referee (state_of m m.sent r)))) same w)
    of (torn left e f t) = part left number e f (subst (λ (s : Slots). SaveTorn (to_save_referee (state_of m m.sent r)) s new.slots left) same t)
    of (spent e f g) = nothing_saved (f ∙ same) g (inl e)
    of (save_no_memory e f g) = nothing_saved (f ∙ same) g (inr e)
saves_to m last_save r keeper new o after fits ok same h (inr stale) = at h.0 h.2
  where
    told : (answer : Result (Unit {0}) DeviceFault) (save : ℕ) → SaveTold save (referee_after_save r save) answer o after → Comes m r o new.slots after
    told (Ok done) save t = absurd (subst (λ (x : Outcome). IsRefused keeper.slots x new.slots) t.0 stale)
    told (Err why) save t = refused t.0 t.1 ((subst (λ (x : Outcome). IsRefused keeper.slots x new.slots) t.0 stale) ∙ same)

    at : (next : Result (Slot × ℕ × Vec ℕ) SaveRefusal) → SaveGoesOn referee_after_save ⊤ keeper r next o new after → Comes m r o new.slots after
    at (Ok s) k = told k.0 s.1 k.2
    at (Err save_refusals.SavesSpent) k = nothing_saved (ap (λ (x : KeeperView). x.slots) k.1 ∙ same) k.2 (inl k.0)
    at (Err save_refusals.Memory) k = nothing_saved (ap (λ (x : KeeperView). x.slots) k.1 ∙ same) k.2 (inr k.0)

-- ---- restarting

pub data ComesBack (id : ℕ) (terms : Terms) (read : Slots) (after : Option RefereeView) : Type 0 where
  up : (r : RefereeView) (found : Option SavedParts) → SlotsRestore read.zero read.one found → after ≡ Some r → process_of_referee r ≡ referee_from found → IsCoreOf id terms (r.next_save - 1) r
      → ComesBack id terms read after
  down : after ≡ None → ComesBack id terms read after

pub restarts_to : (id : ℕ) (terms : Terms) (keeper new : KeeperView) (o : Outcome) (after : Option RefereeView)
    → RestartCallsAt resumed_referee (fresh_referee id terms) ⊤ 0 id terms keeper o new after → ComesBack id terms keeper.slots after
restarts_to id terms keeper new o after h = of (finds 0 id terms keeper new h.0 h.1) h.2
  where
    number : (n : ℕ) → n + 1 - 1 ≡ n
    number n = omega arith

    of : IsFound 0 id terms keeper.slots h.0 → ComesUp resumed_referee (fresh_referee id terms) h.0 o after → ComesBack id terms keeper.slots after
    of (given s restore is f) k =
        let g = subst (λ (x : Result (Option Saved) Outcome). ComesUp resumed_referee (fresh_referee id terms) x o after) f k in
        up (resumed_referee s) (Some (parts_of s)) restore g.1
        (ap (λ (n : ℕ). record { log = s.log.entries; saved = length s.log.entries; last_save = n }) (number s.save))
        (record { log = (is.id, is.terms); numbered = omega arith })
    of (empty restore f) k =
        let g = subst (λ (x : Result (Option Saved) Outcome). ComesUp resumed_referee (fresh_referee id terms) x o after) f k in
        up (fresh_referee id terms) None restore g.1 refl (record { log = (refl, refl); numbered = omega arith })
    of (not_found why f) k =
        let g = subst (λ (x : Result (Option Saved) Outcome). ComesUp resumed_referee (fresh_referee id terms) x o after) f k in down g.1

-- the sessions of a referee are not in the state
other_sessions : (id : ℕ) (terms : Terms) (last_save : ℕ) (r r' : RefereeView) → IsCoreOf id terms last_save (with_sessions_of r r') → IsCoreOf id terms last_save r'
other_sessions id terms last_save r r' fits = record { log = fits.log; numbered = fits.numbered }

-- ---- taking

-- the referee takes what is in hand, and leaves this list and this referee
abbrev TakesTo : SharedMatch → ℕ → RefereeView → Outcome → List Datagram → RefereeView → Type 0
TakesTo m word r o sent r' = RefereeTakeStep (state_of m m.sent r) word o (state_of m sent r')

module _ (m : SharedMatch) (last_save word : ℕ) (r : RefereeView)
    (fits : IsCoreOf m.id m.terms last_save r)
    (inv : Inv (at_rest m)) where
  fits_same : (r' : RefereeView) → r' ≡ r → IsCoreOf m.id m.terms last_save r'
  fits_same r' e = subst (IsCoreOf m.id m.terms last_save) (sym e) fits

  -- nothing was in hand
  nothing_taken : (o : Outcome) (sent : List Datagram) (r' : RefereeView) → IsEmptyHand o → sent ≡ m.sent
      → r' ≡ r → TakesTo m word r o sent r'
  nothing_taken o sent r' hand s f = at hand
    where
      same : state_of m sent r' ≡ state_of m m.sent r
      same = same_state m m.sent sent r r' s f

      at : IsEmptyHand o → TakesTo m word r o sent r'
      at (fault e) = subst (λ (x : Outcome). TakesTo m word r x sent r') (sym e) (grows_none _ 1 _ _ same)
      at (memory e) = subst (λ (x : Outcome). TakesTo m word r x sent r') (sym e) (grows_none _ 1 _ _ same)
      at (nothing e) = subst (λ (x : Outcome). TakesTo m word r x sent r') (sym e) same
      at (no_packet why e) = subst (λ (x : Outcome). TakesTo m word r x sent r') (sym e) same

  module _ (p : Packet) (came : WasSent m.sent 0 p) where
    -- what the core grants is what the protocol accepts
    granted : (e : Entry) → Grants r p word e → IsAccepted m.id m.terms r.log.entries word p e
    granted e g =
        subst (λ (i : ℕ). IsAccepted i m.terms r.log.entries word p e) fits.log.0
        (subst (λ (t : Terms). IsAccepted r.log.id t r.log.entries word p e) fits.log.1 g)

    none_accepted : ((e : Entry) → Grants r p word e → ⊥) → AcceptsNone (state_of m m.sent r) word p
    none_accepted h e g =
        h e (subst (λ (i : ℕ). IsAccepted i r.log.terms r.log.entries word p e) (sym fits.log.0)
        (subst (λ (t : Terms). IsAccepted m.id t r.log.entries word p e) (sym fits.log.1) g))

    -- an answer goes to a party that exists
    sender_exists : (to : ℕ) → IsSentBy to p → to < (first_watcher + m.watchers)
    sender_exists to h = at p (inv.datagrams 0 p came) h
      where
        seats : (q : Player) (sender : ℕ) → sender ≡ party_of q → to ≡ sender → to < (first_watcher + m.watchers)
        seats X sender e f = omega (e, f, arith)
        seats O sender e f = omega (e, f, arith)

        at : (x : Packet) → IsSound (at_rest m) x → IsSentBy to x → to < (first_watcher + m.watchers)
        at (packet.Want id rules sender held) s t = let there = s.1 in let none : List Entry = [] in let k = length-replicate m.watchers none in omega (there, t, k, arith)
        at (packet.Claim id rules sender n a) s t = seats s.1.0 sender s.1.1 t
        at (packet.Entries id rules start list) s t = absurd t

    module _ (honest : Type 0) (is_honest : honest) (mid n : LinkView) (same : mid.sent ≡ m.sent) where
      shows : (to : ℕ) (answer : Packet) → IsPacket answer → TellsSaved r answer
          → ShowsSaved (state_of m m.sent r) (datagram_of to answer)
      shows to answer range h = (answer, carries to answer range, of_saved m last_save r fits answer h)

      list_after : (l : List Datagram) (r' : RefereeView) (d : Datagram) → r' ≡ r → l ≡ mid.sent ++ d ∷ []
          → state_of m l r' ≡ record (state_of m m.sent r) { sent = m.sent ++ d ∷ [] }
      list_after l r' d f e =
          same_state m (m.sent ++ d ∷ []) l r r' (e ∙ ap (λ (x : List Datagram). x ++ d ∷ []) same) f

      -- the send of an answer failed
      not_sent : (to : ℕ) (answer : Packet) (x : DeviceFault) (r' : RefereeView) → IsPacket answer
          → TellsSaved r answer → r' ≡ r
          → (n.sent ≡ mid.sent) ⊎ (n.sent ≡ mid.sent ++ datagram_of to answer ∷ [])
          → TakesTo m word r (link_outcome x) n.sent r'
      not_sent to answer x r' range tells f list = named x
        where
          grows : SendsAtMost (ShowsSaved (state_of m m.sent r)) 1 (state_of m m.sent r)
              (state_of m n.sent r')
          grows = at list
            where
              at : (n.sent ≡ mid.sent) ⊎ (n.sent ≡ mid.sent ++ datagram_of to answer ∷ [])
                  → SendsAtMost (ShowsSaved (state_of m m.sent r)) 1 (state_of m m.sent r)
                  (state_of m n.sent r')
              at (inl e) = grows_none _ 1 _ _ (same_state m m.sent n.sent r r' (e ∙ same) f)
              at (inr e) =
                  grows_one _ 1 _ _ (datagram_of to answer) (omega arith) (shows to answer range tells)
                  (list_after n.sent r' (datagram_of to answer) f e)

          named : (y : DeviceFault)
              → TakesTo m word r (link_outcome y) n.sent r'
          named faults.Failed = grows
          named faults.Memory = grows

      answered : (to : ℕ) (answer : Packet) (result : Outcome) (r' : RefereeView)
          → ((e : Entry) → Grants r p word e → ⊥) → r' ≡ r → IsSentBy to p → TellsSaved r answer → IsPacket answer
          → (b : Bool) → nat_lt to (first_watcher + m.watchers) ≡ b
          → MatchBool b
          ((sent : Result (Unit {0}) DeviceFault) × Posts honest mid to answer sent n
          × ComesTo (outcomes.Took (takes.Answer to answer)) sent result)
          ((result ≡ outcomes.Took (takes.Answer to answer)) × (n ≡ mid))
          → TakesTo m word r result n.sent r'
      answered to answer result r' nobody f by tells range false e h = let there = sender_exists to by in absurd
          (grind (arith, nat_tests))
      answered to answer result r' nobody f by tells range true e h = told h.0 (h.1.sent is_honest) h.2
        where
          told : (sent : Result (Unit {0}) DeviceFault) → LinkSends mid.sent (datagram_of to answer) n.sent sent
              → ComesTo (outcomes.Took (takes.Answer to answer)) sent result
              → TakesTo m word r result n.sent r'
          told (Ok u) list is =
              subst (λ (x : Outcome). TakesTo m word r x n.sent r') (sym is) (
                p,
                came,
                (
                  none_accepted nobody,
                  of_saved m last_save r fits answer tells,
                  (
                    datagram_of to answer,
                    carries to answer range,
                    list_after n.sent r' (datagram_of to answer) f list,
                  ),
                ),
              )
          told (Err x) list is =
              subst (λ (o : Outcome). TakesTo m word r o n.sent r') (sym is)
              (not_sent to answer x r' range tells f list)

      -- the record stays, and so does the list
      idle : (t : TakeOutcome) (result : Outcome) (r' : RefereeView)
          → ReplyStep (state_of m m.sent r) word p t (state_of m n.sent r') → result ≡ outcomes.Took t
          → TakesTo m word r result n.sent r'
      idle t result r' took e =
          subst (λ (x : Outcome). TakesTo m word r x n.sent r') (sym e) (p, came, took)

      same_at : (r' : RefereeView) → n ≡ mid → r' ≡ r → state_of m n.sent r' ≡ state_of m m.sent r
      same_at r' e f = same_state m m.sent n.sent r r' (ap (λ (x : LinkView). x.sent) e ∙ same) f

      -- of a referee that has the sessions that it had
      took_row : (t : TakeOutcome) (result : Outcome) (r' : RefereeView) → Accepts r p word t r' → AnswersSender r p t
          → AnswerFits t → AnswerCalls honest (first_watcher + m.watchers) mid t result n
          → TakesTo m word r result n.sent r' × IsCoreOf m.id m.terms last_save r'
      took_row (takes.Accepted k) result r' g by fit a = (
        idle (takes.Accepted k) result r' (
          g.1.0,
          granted g.1.0 g.1.1,
          grown_state m m.sent n.sent r r' g.1.0 (ap (λ (x : LinkView). x.sent) a.1 ∙ same) g.1.2,
          g.0,
        ) a.0,
        grew m.id m.terms last_save r g.1.0 r' g.1.2 fits,
      )
      took_row (takes.Answer to answer) result r' g by fit a = (
        answered to answer result r' g.0 g.1 by.0 by.1 fit (nat_lt to (first_watcher + m.watchers)) refl a,
        fits_same r' g.1,
      )
      took_row takes.Memory result r' g by fit a =
          (idle takes.Memory result r' (same_at r' a.1 g.2) a.0, fits_same r' g.2)
      took_row takes.OtherMatch result r' g by fit a =
          (idle takes.OtherMatch result r' (none_accepted g.0, same_at r' a.1 g.1) a.0, fits_same r' g.1)
      took_row takes.Nothing result r' g by fit a =
          (idle takes.Nothing result r' (none_accepted g.0, same_at r' a.1 g.1) a.0, fits_same r' g.1)
      took_row takes.Ahead result r' g by fit a =
          (idle takes.Ahead result r' (none_accepted g.0, same_at r' a.1 g.1) a.0, fits_same r' g.1)
      took_row takes.NotYourTurn result r' g by fit a =
          (idle takes.NotYourTurn result r' (none_accepted g.0, same_at r' a.1 g.1) a.0, fits_same r' g.1)
      took_row takes.WordRefused result r' g by fit a =
          (idle takes.WordRefused result r' (none_accepted g.0, same_at r' a.1 g.1) a.0, fits_same r' g.1)
      took_row (takes.Illegal why) result r' g by fit a =
          (idle (takes.Illegal why) result r' (none_accepted g.0, same_at r' a.1 g.1) a.0, fits_same r' g.1)

  pub take_row : (honest : Type 0) → honest → (pick : ℕ) (result : Outcome) (link n : LinkView) (r' : RefereeView) → link.sent ≡ m.sent
      → RefereeTakeCalls honest (first_watcher + m.watchers) link r pick word result n r'
      → TakesTo m word r result n.sent r' × IsCoreOf m.id m.terms last_save r'
  take_row honest is_honest pick result link n r' first h = at h.0 h.1 h.2 h.3
    where
      at : (hand : Result Packet Outcome) (mid : LinkView) → Receives honest link 0 pick hand mid
          → RefereeHandles honest (first_watcher + m.watchers) mid r word hand result n r'
          → TakesTo m word r result n.sent r' × IsCoreOf m.id m.terms last_save r'
      at (Err trouble) mid receives k =
          let same : n.sent ≡ m.sent = ap (λ (x : LinkView). x.sent) k.1 ∙ receives.same is_honest ∙ first in
          let t = nothing_taken trouble n.sent r' (empty_hand mid.taken trouble receives.is_hand) same k.2 in
          (subst (λ (x : Outcome). TakesTo m word r x n.sent r') (sym k.0) t, fits_same r' k.2)
      at (Ok p) mid receives k =
          let took = k.1 in
          let row = took_row p (subst (λ (l : List Datagram). WasSent l 0 p) first (receives.was_sent is_honest)) honest is_honest mid n
          (receives.same is_honest ∙ first) k.0 result (with_sessions_of r r') took.accepts took.answers took.fits k.2 in
          (row.0, other_sessions m.id m.terms last_save r r' row.1)
