-- Sending keeps the invariant: of claims all that was ever saved may be sent, at any time.
use Rattle.std.specs.Prelude.{◌≡◌, ◌⊎◌, ℕ, suc, List, ◌++◌, Contains, All}
use Rattle.std.proofs.Common.{refl, subst, inl, inr}
use Rattle.std.proofs.lemmas.List.Elements.{All-contains}
use Rattle.bg_board.specs.declared.players.Player.{Player}
use Rattle.bg_board.specs.declared.players.Player.TheVariants.{X, O}
use Rattle.bg_match.specs.Terms.{Terms}
use Rattle.bg_match.specs.declared.actions.Action.{Action}
use Rattle.bg_match.specs.declared.entries.Entry.{Entry}
use Rattle.bg_wire.specs.Packets.PacketText.{IsText}
use Rattle.bg_wire.specs.Parties.{party_of}
use Rattle.bg_wire.specs.declared.packets.Datagram.{Datagram}
use Rattle.bg_wire.specs.declared.packets.Packet.{Packet}
use Rattle.bg_wire.specs.declared.packets.Packet.TheVariants as packet
use Rattle.bg_wire.proofs.OfSaves.OneText.{one_packet}
use Rattle.bg_protocol.specs.Promises.Claims.{AreClaimsKept}
use Rattle.bg_protocol.specs.Promises.Refusals.{IsSound}
use Rattle.bg_protocol.specs.Protocol.Datagrams.{WasSent, Carries, Claimed}
use Rattle.bg_protocol.specs.Protocol.Slots.{claim_in}
use Rattle.bg_protocol.specs.Protocol.State.{RefereeState, SeatState}
use Rattle.bg_protocol.proofs.Protocol.Invariant.{SeatOk, RefereeOk, Claimed-more, WasSent-cases}
use Rattle.bg_fences.specs.SharedMatches.{RefereeProcess, SeatProcess, Stored, SharedMatch, stored_of, seats_of, at_rest, seat_as_seen, referee_as_seen}
use Rattle.bg_fences.proofs.Invariant.{Earlier, FencedInv, RefereeProcessOk, SeatProcessOk, SeatsOk, claims_kept, ready, referee_from, seat_from}

-- a claim is one that the seat ever saved
abbrev pub IsEver : (Player → List (ℕ × Action)) → Packet → Type 0
IsEver ever (packet.Claim id rules sender n a) = (q : Player) → sender ≡ party_of q → Contains (ever q) (n, a)
IsEver ever _ = Unit {0}

abbrev pub ever_of : {earlier : Earlier} (m : SharedMatch) → FencedInv earlier m → Player → List (ℕ × Action)
ever_of {earlier} m inv q = (inv.seats q).ever

abbrev pub MayGo : {earlier : Earlier} (m : SharedMatch) → FencedInv earlier m → Datagram → Type 0
MayGo {earlier} m inv d = (p : Packet) × IsText p d.bytes × IsSound (at_rest m) p × IsEver (ever_of m inv) p

may_go : {earlier : Earlier} (m : SharedMatch) (inv : FencedInv earlier m) (d : Datagram) (to : ℕ) (p : Packet) → MayGo m inv d → Carries d to p → IsSound (at_rest m) p × IsEver (ever_of m inv) p
may_go {earlier} m inv d to p h c =
    let same = one_packet h.0 p d.bytes h.1 c.1 in
    subst (λ (x : Packet). IsSound (at_rest m) x × IsEver (ever_of m inv) x) same (h.2, h.3)

referee_more : (id : ℕ) (terms : Terms) (sent out : List Datagram) (r : RefereeState) → RefereeOk id terms sent r → RefereeOk id terms (sent ++ out) r
referee_more id terms sent out r h = record {
  legal = h.legal;
  within = h.within;
  restorable = h.restorable;
  slots = h.slots;
  answered = λ i e q g k. let c = h.answered i e q g k in (c.0, Claimed-more sent out q (suc i) c.0 c.1, c.2);
}

pub referee_process_more : (id : ℕ) (terms : Terms) (sent out : List Datagram) (S : List Entry) (k : Stored) (p : RefereeProcess) → RefereeProcessOk id terms sent S k p → RefereeProcessOk id terms (sent ++ out) S k p
referee_process_more id terms sent out S k p h = record {
  legal = h.legal;
  within = h.within;
  told = h.told;
  old = h.old;
  newest = λ is. referee_more id terms sent out (referee_as_seen k p) (h.newest is);
}

pub seat_claims : (id : ℕ) (terms : Terms) (sent after : List Datagram) (S : List Entry) (q : Player) (f : SeatState) → AreClaimsKept after q (claim_in f.restorable) → SeatOk id terms sent S q f → SeatOk id terms after S q f
seat_claims id terms sent after S q f claims h = record {
  log = h.log;
  kept_log = h.kept_log;
  slots = h.slots;
  claim_old = h.claim_old;
  claim_new = h.claim_new;
  claim_legal = h.claim_legal;
  kept_legal = h.kept_legal;
  claims = claims;
}

pub sends_all : {earlier : Earlier} (m : SharedMatch) (out : List Datagram) (inv : FencedInv earlier m) → All (MayGo m inv) out → FencedInv earlier (record m { sent = m.sent ++ out })
sends_all {earlier} m out inv may = record {
  base = record {
    setup = inv.base.setup;
    referee = referee_more m.id m.terms m.sent out (at_rest m).referee inv.base.referee;
    x = seat_claims m.id m.terms m.sent (m.sent ++ out) (ready m) X (at_rest m).x (claims X) inv.base.x;
    o = seat_claims m.id m.terms m.sent (m.sent ++ out) (ready m) O (at_rest m).o (claims O) inv.base.o;
    watchers = inv.base.watchers;
    datagrams = λ to p h. sound p (at_place to p (WasSent-cases m.sent out to p h));
  };
  referees = λ p c. referee_process_more m.id m.terms m.sent out (ready m) m.referee p (inv.referees p c);
  begun = λ found w. referee_process_more m.id m.terms m.sent out (ready m) m.referee (referee_from found) (inv.begun found w);
  seats = seats;
  watching = inv.watching;
}
  where
    new : (to : ℕ) (p : Packet) → WasSent out to p → IsSound (at_rest m) p × IsEver (ever_of m inv) p
    new to p h = may_go m inv h.0 to p (All-contains (MayGo m inv) out h.0 may h.1) h.2

    at_place : (to : ℕ) (p : Packet) → WasSent (at_rest m).sent to p ⊎ WasSent out to p → IsSound (at_rest m) p
    at_place to p (inl h) = inv.base.datagrams to p h
    at_place to p (inr h) = (new to p h).0

    sound : (p : Packet) → IsSound (at_rest m) p → IsSound (at_rest (record m { sent = m.sent ++ out })) p
    sound (packet.Want id rules sender held) h = h
    sound (packet.Claim id rules sender n a) h = h
    sound (packet.Entries id rules start list) h = h

    was : (q : Player) (n : ℕ) (a : Action) → Claimed (m.sent ++ out) q n a → Contains (ever_of m inv q) (n, a)
    was q n a c = of (WasSent-cases m.sent out c.0 (packet.Claim c.1 c.2 (party_of q) n a) c.3)
      where
        of : WasSent m.sent c.0 (packet.Claim c.1 c.2 (party_of q) n a) ⊎ WasSent out c.0 (packet.Claim c.1 c.2 (party_of q) n a) → Contains (ever_of m inv q) (n, a)
        of (inl h) = (inv.seats q).was_sent n a (c.0, c.1, c.2, h)
        of (inr h) = (new c.0 (packet.Claim c.1 c.2 (party_of q) n a) h).1 q refl

    claims : (q : Player) → AreClaimsKept (m.sent ++ out) q (claim_in (stored_of m q).restorable)
    claims q = claims_kept (m.sent ++ out) q (ever_of m inv q) (claim_in (stored_of m q).restorable) (inv.seats q).kept (was q)

    process : (q : Player) (f : SeatProcess) → SeatProcessOk m.id m.terms m.sent (ready m) q (stored_of m q) (ever_of m inv q) f
        → SeatProcessOk m.id m.terms (m.sent ++ out) (ready m) q (stored_of m q) (ever_of m inv q) f
    process q f h = record {
      log = h.log;
      old = h.old;
      legal = h.legal;
      was_saved = h.was_saved;
      newest = λ is. seat_claims m.id m.terms m.sent (m.sent ++ out) (ready m) q (seat_as_seen (stored_of m q) f) (claims q) (h.newest is);
    }

    of_player : (q : Player) → SeatsOk earlier m.id m.terms (m.sent ++ out) (ready m) q (stored_of m q) (seats_of m q)
    of_player q = record {
      ever = (inv.seats q).ever;
      kept = (inv.seats q).kept;
      in_slots = (inv.seats q).in_slots;
      was_sent = was q;
      each = λ f c. process q f ((inv.seats q).each f c);
      begun = λ found w. process q (seat_from found) ((inv.seats q).begun found w);
    }

    seats : (q : Player) → SeatsOk earlier m.id m.terms (m.sent ++ out) (ready m) q (stored_of (record m { sent = m.sent ++ out }) q) (seats_of (record m { sent = m.sent ++ out }) q)
    seats X = of_player X
    seats O = of_player O
