-- What is claimed of every state that a run reaches.
use Rattle.std.specs.Prelude.{◌≡◌, ℕ, ◌-◌, Some, List, take}
use Rattle.bg_board.specs.declared.players.Player.{Player}
use Rattle.bg_match.specs.Answers.{IsAnswer}
use Rattle.bg_match.specs.Match.{IsLegalRecord, SeatAfter, at_number}
use Rattle.bg_match.specs.Terms.{Terms}
use Rattle.bg_match.specs.declared.actions.Action.{Action}
use Rattle.bg_match.specs.declared.entries.Entry.{Entry}
use Rattle.bg_wire.specs.declared.packets.Datagram.{Datagram}
use Rattle.bg_protocol.specs.Promises.Agreement.{IsPrefix}
use Rattle.bg_protocol.specs.Promises.Claims.{IsOnlyClaim}
use Rattle.bg_protocol.specs.Protocol.State.{ProtocolState, log_of}

-- each entry of a seat in the record answers the one action that this seat ever claimed under its
-- number
abbrev pub AreAnswered : Terms → List Entry → List Datagram → Type 0
AreAnswered terms entries sent =
    (n : ℕ) (e : Entry) (player : Player) → at_number entries n ≡ Some e
    → SeatAfter terms (take (n - 1) entries) (Some player)
    → (action : Action) × IsOnlyClaim sent player n action × IsAnswer action e

-- the headline over a state of the protocol, where a party that is down has a record too
pub record Headline (w : ProtocolState) : Type 0 where
  pub prefix : (party : ℕ) (log : List Entry) → log_of w party ≡ Some log → IsPrefix log w.referee.log
  pub legal : IsLegalRecord w.terms w.referee.log
  pub answered : AreAnswered w.terms w.referee.log w.sent
