-- The invariant of each reached state, and what keeps it: a change at the referee, at a seat, at a
-- watcher, and sending.
use Rattle.std.specs.Prelude.{◌≡◌, ℕ, suc, ◌<◌, ◌≤◌, true, false, Option, Some, None, List, [], ◌∷◌, ◌++◌, ◌⊎◌, length, take, slice_get, slice_set, Contains, All}
use Rattle.std.proofs.Common.{refl, sym, ◌∙◌, ap, subst, inl, inr, arith}
use Rattle.std.proofs.lemmas.List.{length-set, length-take}
use Rattle.std.proofs.lemmas.Option.{some_pair_parts}
use Rattle.std.proofs.lemmas.List.Elements.{Contains-append_left, Contains-append_cases, All-contains}
use Rattle.bg_board.specs.declared.players.Player.{Player}
use Rattle.bg_board.specs.declared.players.Player.TheVariants.{X, O}
use Rattle.bg_match.specs.declared.actions.Action.{Action}
use Rattle.bg_match.specs.declared.entries.Entry.{Entry}
use Rattle.bg_match.specs.declared.phases.Actor.TheVariants.{Seat}
use Rattle.bg_match.specs.Answers.{IsAnswer}
use Rattle.bg_match.specs.Match.{IsLegalRecord, ActsAfter}
use Rattle.bg_wire.specs.Parties.{party_of}
use Rattle.bg_wire.specs.Packets.PacketText.{IsText}
use Rattle.bg_wire.specs.declared.packets.Datagram.{Datagram}
use Rattle.bg_wire.specs.declared.packets.Packet.{Packet}
use Rattle.bg_wire.specs.declared.packets.Packet.TheVariants as packet
use Rattle.bg_wire.proofs.OfSaves.OneText.{one_packet}
use Rattle.bg_party.specs.Claims.{claim_number}
use Rattle.bg_match.specs.Terms.{Terms}
use Rattle.bg_protocol.specs.Promises.Agreement.{IsPrefix}
use Rattle.bg_protocol.specs.Promises.Claims.{AreClaimsKept}
use Rattle.bg_protocol.specs.Protocol.Datagrams.{WasSent, Carries, Claimed}
use Rattle.bg_protocol.specs.Promises.Refusals.{IsLegalClaim, IsSound}
use Rattle.bg_protocol.specs.Protocol.Slots.{entries_in, claim_in}
use Rattle.bg_protocol.specs.Protocol.State.{ProtocolState, RefereeState, SeatState, IsSetup, seat_in, with_seat, saved_log}
use Rattle.bg_protocol.proofs.Protocol.Lists.{prefix_trans, prefix_length, prefix_front, prefix_run, get_set}
use Rattle.bg_protocol.proofs.Protocol.Saving.{SlotsOk}

same_action : (n : ℕ) (a b : Action) → ◌≡◌ {A = Option (ℕ × Action)} (Some (n, a)) (Some (n, b)) → a ≡ b
same_action n a b h = (some_pair_parts n n a b h).1

-- a claim, where there is one, was legal on a front of what the referee has saved
abbrev pub LegalClaim : Terms → List Entry → Player → Option (ℕ × Action) → Type 0
LegalClaim terms S q None = Unit {0}
LegalClaim terms S q (Some c) = IsLegalClaim terms S q c.0 c.1

-- a seat, beside what the referee has saved and all that was sent
pub record SeatOk (id : ℕ) (terms : Terms) (sent : List Datagram) (S : List Entry) (q : Player) (f : SeatState) : Type 0 where
  pub log : IsPrefix f.log S
  pub kept_log : IsPrefix (entries_in f.restorable) S
  pub slots : SlotsOk id terms (party_of q) f.slots f.restorable
  -- a saved claim is the one that the slots restore, and one that isn't saved has a greater number
  pub claim_old : f.claim_saved ≡ true → f.claim ≡ claim_in f.restorable
  pub claim_new : f.claim_saved ≡ false → claim_number (claim_in f.restorable) < claim_number f.claim
  pub claim_legal : LegalClaim terms S q f.claim
  pub kept_legal : LegalClaim terms S q (claim_in f.restorable)
  pub claims : AreClaimsKept sent q (claim_in f.restorable)

-- each entry of a seat answers an action that the seat has claimed under its number
abbrev pub Answered : Terms → List Datagram → List Entry → Type 0
Answered terms sent log =
    (i : ℕ) (e : Entry) (q : Player) → slice_get log i ≡ Some e → ActsAfter terms (take i log) (Seat q)
    → (a : Action) × Claimed sent q (suc i) a × IsAnswer a e

-- the referee, beside all that was sent
pub record RefereeOk (id : ℕ) (terms : Terms) (sent : List Datagram) (r : RefereeState) : Type 0 where
  pub legal : IsLegalRecord terms r.log
  pub within : r.saved ≤ length r.log
  pub restorable : entries_in r.restorable ≡ take r.saved r.log
  pub slots : SlotsOk id terms 0 r.slots r.restorable
  pub answered : Answered terms sent r.log

pub record Inv (w : ProtocolState) : Type 0 where
  pub setup : IsSetup w.id w.terms (length w.watchers)
  pub referee : RefereeOk w.id w.terms w.sent w.referee
  pub x : SeatOk w.id w.terms w.sent (saved_log w) X w.x
  pub o : SeatOk w.id w.terms w.sent (saved_log w) O w.o
  pub watchers : (i : ℕ) (log : List Entry) → slice_get w.watchers i ≡ Some log → IsPrefix log (saved_log w)
  pub datagrams : (to : ℕ) (p : Packet) → WasSent w.sent to p → IsSound w p

pub of_seat : (w : ProtocolState) (q : Player) → Inv w → SeatOk w.id w.terms w.sent (saved_log w) q (seat_in w q)
of_seat w X inv = inv.x
of_seat w O inv = inv.o

-- what the referee has saved only grows
pub IsLegalClaim-more : (terms : Terms) (S T : List Entry) (q : Player) (n : ℕ) (a : Action) → IsPrefix S T → IsLegalClaim terms S q n a → IsLegalClaim terms T q n a
IsLegalClaim-more terms S T q n a p h =
    let e = prefix_front S T h.before p h.within in
    let l = prefix_length S T p in
    let k = h.within in
    record {
      before = h.before;
      number = h.number;
      within = omega (l, k, arith);
      acts = subst (λ (x : List Entry). ActsAfter terms x (Seat q)) (sym e) h.acts;
      entry = h.entry;
      of_action = h.of_action;
      legal = subst (λ (x : List Entry). IsLegalRecord terms (x ++ h.entry ∷ [])) (sym e) h.legal;
    }

pub LegalClaim-more : (terms : Terms) (S T : List Entry) (q : Player) (c : Option (ℕ × Action)) → IsPrefix S T → LegalClaim terms S q c → LegalClaim terms T q c
LegalClaim-more terms S T q None p h = tt
LegalClaim-more terms S T q (Some c) p h = IsLegalClaim-more terms S T q c.0 c.1 p h

pub SeatOk-more : (id : ℕ) (terms : Terms) (sent : List Datagram) (S T : List Entry) (q : Player) (f : SeatState) → IsPrefix S T → SeatOk id terms sent S q f → SeatOk id terms sent T q f
SeatOk-more id terms sent S T q f p h = record {
  log = prefix_trans f.log S T h.log p;
  kept_log = prefix_trans (entries_in f.restorable) S T h.kept_log p;
  slots = h.slots;
  claim_old = h.claim_old;
  claim_new = h.claim_new;
  claim_legal = LegalClaim-more terms S T q f.claim p h.claim_legal;
  kept_legal = LegalClaim-more terms S T q (claim_in f.restorable) p h.kept_legal;
  claims = h.claims;
}

-- a step of the referee that sends nothing
pub referee_steps : (w : ProtocolState) (r : RefereeState) → Inv w → RefereeOk w.id w.terms w.sent r → IsPrefix (saved_log w) (take r.saved r.log) → Inv (record w { referee = r })
referee_steps w r inv ok p = record {
  setup = inv.setup;
  referee = ok;
  x = SeatOk-more w.id w.terms w.sent (saved_log w) (take r.saved r.log) X w.x p inv.x;
  o = SeatOk-more w.id w.terms w.sent (saved_log w) (take r.saved r.log) O w.o p inv.o;
  watchers = λ i log h. prefix_trans log (saved_log w) (take r.saved r.log) (inv.watchers i log h) p;
  datagrams = λ to packet h. sound packet (inv.datagrams to packet h);
}
  where
    sound : (p : Packet) → IsSound w p → IsSound (record w { referee = r }) p
    sound (packet.Want id rules sender held) h =
        let l = prefix_length (saved_log w) (take r.saved r.log) p in
        let k = h.2 in
        let m = inv.referee.within in
        (h.0, h.1, omega (arith, length-take w.referee.saved w.referee.log, length-take r.saved r.log))
    sound (packet.Claim id rules sender n a) h = (h.0, (h.1.0, h.1.1, IsLegalClaim-more w.terms (saved_log w) (take r.saved r.log) h.1.0 n a p h.1.2))
    sound (packet.Entries id rules start list) h = (h.0, prefix_run (saved_log w) (take r.saved r.log) start list p h.1)

-- a step of a seat that sends nothing
pub seat_steps : (w : ProtocolState) (q : Player) (f : SeatState) → Inv w → SeatOk w.id w.terms w.sent (saved_log w) q f → Inv (with_seat w q f)
seat_steps w X f inv ok = record { setup = inv.setup; referee = inv.referee; x = ok; o = inv.o; watchers = inv.watchers; datagrams = λ to packet h. sound packet (inv.datagrams to packet h) }
  where
    sound : (p : Packet) → IsSound w p → IsSound (record w { x = f }) p
    sound (packet.Want id rules sender held) h = h
    sound (packet.Claim id rules sender n a) h = h
    sound (packet.Entries id rules start list) h = h
seat_steps w O f inv ok = record { setup = inv.setup; referee = inv.referee; x = inv.x; o = ok; watchers = inv.watchers; datagrams = λ to packet h. sound packet (inv.datagrams to packet h) }
  where
    sound : (p : Packet) → IsSound w p → IsSound (record w { o = f }) p
    sound (packet.Want id rules sender held) h = h
    sound (packet.Claim id rules sender n a) h = h
    sound (packet.Entries id rules start list) h = h

-- a step of a watcher that sends nothing
pub watcher_steps : (w : ProtocolState) (i : ℕ) (log : List Entry) → Inv w → IsPrefix log (saved_log w) → Inv (record w { watchers = slice_set w.watchers i log })
watcher_steps w i log inv p = record {
  setup = subst (λ (n : ℕ). IsSetup w.id w.terms n) (sym (length-set w.watchers i log)) inv.setup;
  referee = inv.referee;
  x = inv.x;
  o = inv.o;
  watchers = λ j l h. at_write j l (get_set w.watchers i log j l h);
  datagrams = λ to packet h. sound packet (inv.datagrams to packet h);
}
  where
    sound : (p : Packet) → IsSound w p → IsSound (record w { watchers = slice_set w.watchers i log }) p
    sound (packet.Want id rules sender held) h = let k = h.1 in (h.0, omega (arith, length-set w.watchers i log), h.2)
    sound (packet.Claim id rules sender n a) h = h
    sound (packet.Entries id rules start list) h = h

    at_write : (j : ℕ) (l : List Entry) → (l ≡ log) ⊎ (slice_get w.watchers j ≡ Some l) → IsPrefix l (saved_log w)
    at_write j l (inl e) = subst (λ (x : List Entry). IsPrefix x (saved_log w)) (sym e) p
    at_write j l (inr e) = inv.watchers j l e

-- what may be sent: what is sound, and of claims what the seat's slots restore
abbrev pub IsKeptClaim : ProtocolState → Packet → Type 0
IsKeptClaim w (packet.Claim id rules sender n a) = (q : Player) → sender ≡ party_of q → claim_in (seat_in w q).restorable ≡ Some (n, a)
IsKeptClaim w _ = Unit {0}

abbrev pub MaySend : ProtocolState → Datagram → Type 0
MaySend w d = (p : Packet) × IsText p d.bytes × IsSound w p × IsKeptClaim w p

-- a packet of a datagram that may be sent
may_send : (w : ProtocolState) (d : Datagram) (to : ℕ) (p : Packet) → MaySend w d → Carries d to p → IsSound w p × IsKeptClaim w p
may_send w d to p m c =
    let same = one_packet m.0 p d.bytes m.1 c.1 in
    subst (λ (x : Packet). IsSound w x × IsKeptClaim w x) same (m.2, m.3)

pub WasSent-cases : (sent out : List Datagram) (to : ℕ) (p : Packet) → WasSent (sent ++ out) to p → WasSent sent to p ⊎ WasSent out to p
WasSent-cases sent out to p h = at_place (Contains-append_cases sent out h.0 h.1)
  where
    at_place : Contains sent h.0 ⊎ Contains out h.0 → WasSent sent to p ⊎ WasSent out to p
    at_place (inl c) = inl (h.0, c, h.2)
    at_place (inr c) = inr (h.0, c, h.2)

pub WasSent-more : (sent out : List Datagram) (to : ℕ) (p : Packet) → WasSent sent to p → WasSent (sent ++ out) to p
WasSent-more sent out to p h = (h.0, Contains-append_left sent out h.0 h.1, h.2)

pub Claimed-more : (sent out : List Datagram) (q : Player) (n : ℕ) (a : Action) → Claimed sent q n a → Claimed (sent ++ out) q n a
Claimed-more sent out q n a h = (h.0, h.1, h.2, WasSent-more sent out h.0 (packet.Claim h.1 h.2 (party_of q) n a) h.3)

AreClaimsKept-more : (sent out : List Datagram) (q : Player) (restorable : Option (ℕ × Action)) → ((n : ℕ) (a : Action) → Claimed out q n a → restorable ≡ Some (n, a)) → AreClaimsKept sent q restorable → AreClaimsKept (sent ++ out) q restorable
AreClaimsKept-more sent out q restorable new h = record {
  up_to = λ n a c. up_to n a (split n a c);
  same = λ n a c e. same n a (split n a c) e;
  one = λ n a b c d. one n a b (split n a c) (split n b d);
}
  where
    split : (n : ℕ) (a : Action) → Claimed (sent ++ out) q n a → Claimed sent q n a ⊎ (restorable ≡ Some (n, a))
    split n a c = at_place (WasSent-cases sent out c.0 (packet.Claim c.1 c.2 (party_of q) n a) c.3)
      where
        at_place : WasSent sent c.0 (packet.Claim c.1 c.2 (party_of q) n a) ⊎ WasSent out c.0 (packet.Claim c.1 c.2 (party_of q) n a) → Claimed sent q n a ⊎ (restorable ≡ Some (n, a))
        at_place (inl p) = inl (c.0, c.1, c.2, p)
        at_place (inr p) = inr (new n a (c.0, c.1, c.2, p))

    up_to : (n : ℕ) (a : Action) → Claimed sent q n a ⊎ (restorable ≡ Some (n, a)) → n ≤ claim_number restorable
    up_to n a (inl c) = h.up_to n a c
    up_to n a (inr e) = let k : claim_number restorable ≡ n = ap claim_number e in omega (k, arith)

    same : (n : ℕ) (a : Action) → Claimed sent q n a ⊎ (restorable ≡ Some (n, a)) → n ≡ claim_number restorable → restorable ≡ Some (n, a)
    same n a (inl c) e = h.same n a c e
    same n a (inr e) f = e

    one : (n : ℕ) (a b : Action) → Claimed sent q n a ⊎ (restorable ≡ Some (n, a)) → Claimed sent q n b ⊎ (restorable ≡ Some (n, b)) → a ≡ b
    one n a b (inl c) (inl d) = h.one n a b c d
    one n a b (inl c) (inr e) = let k = h.same n a c (sym (ap claim_number e)) in same_action n a b (sym k ∙ e)
    one n a b (inr e) (inl d) = let k = h.same n b d (sym (ap claim_number e)) in same_action n a b (sym e ∙ k)
    one n a b (inr e) (inr f) = same_action n a b (sym e ∙ f)

SeatOk-sends : (id : ℕ) (terms : Terms) (sent out : List Datagram) (S : List Entry) (q : Player) (f : SeatState) → ((n : ℕ) (a : Action) → Claimed out q n a → claim_in f.restorable ≡ Some (n, a)) → SeatOk id terms sent S q f → SeatOk id terms (sent ++ out) S q f
SeatOk-sends id terms sent out S q f new h = record {
  log = h.log;
  kept_log = h.kept_log;
  slots = h.slots;
  claim_old = h.claim_old;
  claim_new = h.claim_new;
  claim_legal = h.claim_legal;
  kept_legal = h.kept_legal;
  claims = AreClaimsKept-more sent out q (claim_in f.restorable) new h.claims;
}

-- a step that sends what may be sent
pub sends : (w : ProtocolState) (out : List Datagram) → Inv w → All (MaySend w) out → Inv (record w { sent = w.sent ++ out })
sends w out inv may = record {
  setup = inv.setup;
  referee = record {
    legal = inv.referee.legal;
    within = inv.referee.within;
    restorable = inv.referee.restorable;
    slots = inv.referee.slots;
    answered = λ i e q g h. let c = inv.referee.answered i e q g h in (c.0, Claimed-more w.sent out q (suc i) c.0 c.1, c.2);
  };
  x = SeatOk-sends w.id w.terms w.sent out (saved_log w) X w.x (restorable X) inv.x;
  o = SeatOk-sends w.id w.terms w.sent out (saved_log w) O w.o (restorable O) inv.o;
  watchers = inv.watchers;
  datagrams = λ to p h. sound p (at_place to p (WasSent-cases w.sent out to p h));
}
  where
    new : (to : ℕ) (p : Packet) → WasSent out to p → IsSound w p × IsKeptClaim w p
    new to p h = may_send w h.0 to p (All-contains (MaySend w) out h.0 may h.1) h.2

    restorable : (q : Player) (n : ℕ) (a : Action) → Claimed out q n a → claim_in (seat_in w q).restorable ≡ Some (n, a)
    restorable q n a c = (new c.0 (packet.Claim c.1 c.2 (party_of q) n a) c.3).1 q refl

    at_place : (to : ℕ) (p : Packet) → WasSent w.sent to p ⊎ WasSent out to p → IsSound w p
    at_place to p (inl h) = inv.datagrams to p h
    at_place to p (inr h) = (new to p h).0

    sound : (p : Packet) → IsSound w p → IsSound (record w { sent = w.sent ++ out }) p
    sound (packet.Want id rules sender held) h = h
    sound (packet.Claim id rules sender n a) h = h
    sound (packet.Entries id rules start list) h = h
