-- What is claimed of every match that calls of any processes lead to.
use Rattle.std.specs.Prelude.{ℕ, List, take, Contains}
use Rattle.bg_board.specs.declared.players.Player.{Player}
use Rattle.bg_match.specs.Match.{IsLegalRecord}
use Rattle.bg_match.specs.declared.limits.Rules.{Rules}
use Rattle.bg_match.specs.declared.entries.Entry.{Entry}
use Rattle.bg_wire.specs.Runs.{IsRun}
use Rattle.bg_wire.specs.declared.packets.Packet.{Packet}
use Rattle.bg_wire.specs.declared.packets.Packet.TheVariants as packet
use Rattle.bg_protocol.specs.Promises.Agreement.{Agreement, IsPrefix}
use Rattle.bg_protocol.specs.Promises.Claims.{AreClaimsKept}
use Rattle.bg_protocol.specs.Promises.GivenBack.{AreSlotsGivenBack}
use Rattle.bg_protocol.specs.Promises.Headline.{AreAnswered, Headline}
use Rattle.bg_protocol.specs.Promises.Refusals.{AreNoEntriesRefused, IsNoPacketRefused}
use Rattle.bg_protocol.specs.Promises.Refusals.{IsNoSlotRefused, IsSound}
use Rattle.bg_protocol.specs.Promises.Shown.{ShowsSavedAlone}
use Rattle.bg_protocol.specs.Promises.Survival.{SavesSurvive}
use Rattle.bg_protocol.specs.Protocol.Datagrams.{WasSent}
use Rattle.bg_protocol.specs.Protocol.Slots.{claim_in}
use Rattle.bg_protocol.specs.Protocol.State.{ProtocolState}
use Rattle.bg_protocol.specs.Worlds.DiceWords.{ShowsWordsOf}
use Rattle.bg_protocol.specs.declared.events.Event.{Event}
use Rattle.bg_fences.specs.ProcessCalls.{IsNewest}
use Rattle.bg_fences.specs.SharedMatches.{RefereeProcess, SeatProcess, WatcherProcess}
use Rattle.bg_fences.specs.SharedMatches.{SharedMatch, at_rest, stored_of, seats_of, settled}
use Rattle.bg_fences.specs.SharedMatches.{seen_by_referee, seen_by_seat}

-- The settled entries are a legal match. Each entry of a seat in it answers the one action that
-- this seat ever claimed under its number. No datagram of entries shows another. What a process of
-- the referee counts as saved is a front of them, and its whole record is a legal match. The record
-- of each process of a follower is a front of them.
pub record FencedHeadline (m : SharedMatch) : Type 0 where
  pub legal : IsLegalRecord m.terms (settled m)
  pub answered : AreAnswered m.terms (settled m) m.sent
  pub claims : (q : Player) → AreClaimsKept m.sent q (claim_in (stored_of m q).restorable)
  pub shown : (to id : ℕ) (rules : Rules) (start : ℕ) (list : List Entry)
      → WasSent m.sent to (packet.Entries id rules start list) → IsRun (settled m) start list
  pub told : (p : RefereeProcess) → Contains m.referees p
      → IsPrefix (take p.saved p.log) (settled m)
  pub held : (p : RefereeProcess) → Contains m.referees p → IsLegalRecord m.terms p.log
  pub seats : (q : Player) (f : SeatProcess) → Contains (seats_of m q) f
      → IsPrefix f.log (settled m)
  pub watchers : (p : WatcherProcess) → Contains m.watching p → IsPrefix p.log (settled m)
  -- no packet is refused for its match or its number, and no slot for its text
  pub packets : (to : ℕ) (p : Packet) → WasSent m.sent to p → IsSound (at_rest m) p
  pub slots : IsNoSlotRefused (at_rest m)

-- all that holds of a state which a run of one process for each party leads to
pub record HoldsOfOne (w : ProtocolState) : Type 0 where
  pub headline : Headline w
  pub agreement : Agreement w
  pub saved_alone : ShowsSavedAlone w
  pub packets : IsNoPacketRefused w
  pub slots : IsNoSlotRefused w
  pub survive : SavesSurvive w
  pub given_back : AreSlotsGivenBack w

-- So it is of the state that a process acts in whose last save is the newest, and of the one where
-- each party has what its slots restore. What entries a seat is sent, it never refuses, however old
-- what it holds is.
pub record HoldsOfNewest (m : SharedMatch) : Type 0 where
  pub rest : HoldsOfOne (at_rest m)
  pub referees : (p : RefereeProcess) → Contains m.referees p
      → IsNewest m.referee.restorable p.last_save → HoldsOfOne (seen_by_referee m p)
  pub seats : (q : Player) (f : SeatProcess) → Contains (seats_of m q) f
      → IsNewest (stored_of m q).restorable f.last_save → HoldsOfOne (seen_by_seat m q f)
  pub entries : (q : Player) (f : SeatProcess) → Contains (seats_of m q) f
      → AreNoEntriesRefused (seen_by_seat m q f)

-- the dice of each opening and of each roll are those of a word that one of these events handed in:
-- of the settled entries, and of what each process of the referee holds
pub record ShowsWordsHandedIn (m : SharedMatch) (events : List Event) : Type 0 where
  pub of_settled : ShowsWordsOf events (settled m)
  pub of_held : (p : RefereeProcess) → Contains m.referees p → ShowsWordsOf events p.log
