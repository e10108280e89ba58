-- What holds of each state that calls of processes lead to.
use Rattle.std.specs.Prelude.{◌≡◌, ℕ, ◌<◌, ◌≤◌, true, Option, Some, List, length, take, Contains}
use Rattle.std.proofs.Common.{arith}
use Rattle.std.proofs.lemmas.List.{take_all}
use Rattle.bg_board.specs.declared.players.Player.{Player}
use Rattle.bg_match.specs.Match.{IsLegalRecord}
use Rattle.bg_match.specs.Terms.{Terms}
use Rattle.bg_match.specs.declared.actions.Action.{Action}
use Rattle.bg_match.specs.declared.entries.Entry.{Entry}
use Rattle.bg_party.specs.Claims.{claim_number}
use Rattle.bg_wire.specs.Saved.SavedText.{SavedParts}
use Rattle.bg_wire.specs.Saved.SlotLaws.{save_in}
use Rattle.bg_wire.specs.declared.packets.Datagram.{Datagram}
use Rattle.bg_protocol.specs.Promises.Agreement.{IsPrefix}
use Rattle.bg_protocol.specs.Promises.Claims.{AreClaimsKept}
use Rattle.bg_protocol.specs.Protocol.Datagrams.{Claimed}
use Rattle.bg_protocol.specs.Protocol.Slots.{claim_in, empty_slots}
use Rattle.bg_protocol.specs.Protocol.State.{saved_log}
use Rattle.bg_protocol.proofs.Protocol.Invariant.{Inv, SeatOk, RefereeOk, LegalClaim, LegalClaim-more, SeatOk-more}
use Rattle.bg_protocol.proofs.Protocol.Lists.{prefix_trans}
use Rattle.bg_fences.specs.SharedMatches.{RefereeProcess, SeatProcess, WatcherProcess, Stored, SharedMatch, stored_of, seats_of, settled}
use Rattle.bg_fences.specs.SharedMatches.{at_rest, begun_referee, begun_seat, referee_as_seen, seat_as_seen}
use Rattle.bg_fences.specs.ProcessCalls.{IsNewest}

-- what the protocol's state at rest has saved: all that is settled
abbrev pub ready : SharedMatch → List Entry
ready m = saved_log (at_rest m)

pub ready_all : (m : SharedMatch) → ready m ≡ settled m
ready_all m = take_all (length (settled m)) (settled m) (omega arith)

-- what the slots of each party restored at some moment, as far as that is told
pub record Earlier : Type 1 where
  pub referee : Option SavedParts → Type 0
  pub seat : Player → Option SavedParts → Type 0

-- the process that begins with this
abbrev pub referee_from : Option SavedParts → RefereeProcess
referee_from found = begun_referee (record { slots = empty_slots; restorable = found })

abbrev pub seat_from : Option SavedParts → SeatProcess
seat_from found = begun_seat (record { slots = empty_slots; restorable = found })

-- a process of the referee: what it has saved is settled; and one that counts from the newest save
-- is as the protocol's referee
pub record RefereeProcessOk (id : ℕ) (terms : Terms) (sent : List Datagram) (S : List Entry) (k : Stored) (p : RefereeProcess) : Type 0 where
  pub legal : IsLegalRecord terms p.log
  pub within : p.saved ≤ length p.log
  pub told : IsPrefix (take p.saved p.log) S
  pub old : p.last_save ≤ save_in k.restorable
  pub newest : IsNewest k.restorable p.last_save → RefereeOk id terms sent (referee_as_seen k p)

-- the claims that a seat ever saved are up to the one that its slots restore, and one under each
-- number
pub record EverKept (ever : List (ℕ × Action)) (restorable : Option (ℕ × Action)) : Type 0 where
  pub up_to : (n : ℕ) (a : Action) → Contains ever (n, a) → n ≤ claim_number restorable
  pub same : (n : ℕ) (a : Action) → Contains ever (n, a) → n ≡ claim_number restorable → restorable ≡ Some (n, a)
  pub one : (n : ℕ) (a b : Action) → Contains ever (n, a) → Contains ever (n, b) → a ≡ b

-- a process of a seat: it holds what is settled, its saved claim was saved; and one that counts
-- from the newest save is as the protocol's seat
pub record SeatProcessOk (id : ℕ) (terms : Terms) (sent : List Datagram) (S : List Entry) (q : Player) (k : Stored) (ever : List (ℕ × Action)) (f : SeatProcess) : Type 0 where
  pub log : IsPrefix f.log S
  pub old : f.last_save ≤ save_in k.restorable
  pub legal : LegalClaim terms S q f.claim
  pub was_saved : f.claim_saved ≡ true → (n : ℕ) (a : Action) → f.claim ≡ Some (n, a) → Contains ever (n, a)
  pub newest : IsNewest k.restorable f.last_save → SeatOk id terms sent S q (seat_as_seen k f)

-- all processes of a seat, with the claims that were ever saved; and those that may begin with what
-- was restored earlier
pub record SeatsOk (earlier : Earlier) (id : ℕ) (terms : Terms) (sent : List Datagram) (S : List Entry) (q : Player) (k : Stored) (fs : List SeatProcess) : Type 0 where
  pub ever : List (ℕ × Action)
  pub kept : EverKept ever (claim_in k.restorable)
  pub in_slots : (n : ℕ) (a : Action) → claim_in k.restorable ≡ Some (n, a) → Contains ever (n, a)
  pub was_sent : (n : ℕ) (a : Action) → Claimed sent q n a → Contains ever (n, a)
  pub each : (f : SeatProcess) → Contains fs f → SeatProcessOk id terms sent S q k ever f
  pub begun : (found : Option SavedParts) → earlier.seat q found → SeatProcessOk id terms sent S q k ever (seat_from found)

pub record FencedInv (earlier : Earlier) (m : SharedMatch) : Type 0 where
  pub base : Inv (at_rest m)
  pub referees : (p : RefereeProcess) → Contains m.referees p → RefereeProcessOk m.id m.terms m.sent (ready m) m.referee p
  pub begun : (found : Option SavedParts) → earlier.referee found → RefereeProcessOk m.id m.terms m.sent (ready m) m.referee (referee_from found)
  pub seats : (q : Player) → SeatsOk earlier m.id m.terms m.sent (ready m) q (stored_of m q) (seats_of m q)
  pub watching : (p : WatcherProcess) → Contains m.watching p → (p.index < m.watchers) × IsPrefix p.log (ready m)

-- what is claimed of a seat, from what it ever saved
pub claims_kept : (sent : List Datagram) (q : Player) (ever : List (ℕ × Action)) (c : Option (ℕ × Action)) → EverKept ever c
    → ((n : ℕ) (a : Action) → Claimed sent q n a → Contains ever (n, a)) → AreClaimsKept sent q c
claims_kept sent q ever c kept was = record {
  up_to = λ n a h. kept.up_to n a (was n a h);
  same = λ n a h e. kept.same n a (was n a h) e;
  one = λ n a b h g. kept.one n a b (was n a h) (was n b g);
}

-- ---- what is settled only grows

seat_process_more : (id : ℕ) (terms : Terms) (sent : List Datagram) (S T : List Entry) (q : Player) (k : Stored) (ever : List (ℕ × Action)) (f : SeatProcess) → IsPrefix S T → SeatProcessOk id terms sent S q k ever f → SeatProcessOk id terms sent T q k ever f
seat_process_more id terms sent S T q k ever f p h = record {
  log = prefix_trans f.log S T h.log p;
  old = h.old;
  legal = LegalClaim-more terms S T q f.claim p h.legal;
  was_saved = h.was_saved;
  newest = λ is. SeatOk-more id terms sent S T q (seat_as_seen k f) p (h.newest is);
}

pub seats_more : {earlier : Earlier} (id : ℕ) (terms : Terms) (sent : List Datagram) (S T : List Entry) (q : Player) (k : Stored) (fs : List SeatProcess) → IsPrefix S T → SeatsOk earlier id terms sent S q k fs → SeatsOk earlier id terms sent T q k fs
seats_more id terms sent S T q k fs p h = record {
  ever = h.ever;
  kept = h.kept;
  in_slots = h.in_slots;
  was_sent = h.was_sent;
  each = λ f c. seat_process_more id terms sent S T q k h.ever f p (h.each f c);
  begun = λ found w. seat_process_more id terms sent S T q k h.ever (seat_from found) p (h.begun found w);
}
