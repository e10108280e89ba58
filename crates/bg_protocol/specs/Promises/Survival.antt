-- What a save leaves.
use Rattle.std.specs.Prelude.{◌≡◌, ◌⊎◌, ℕ, Some}
use Rattle.bg_board.specs.declared.players.Player.{Player}
use Rattle.bg_protocol.specs.declared.events.Outcome.TheVariants as outcomes
use Rattle.bg_protocol.specs.Protocol.SaveStep.{RefereeSaveStep, SeatSaveStep, to_save_referee, to_save_seat}
use Rattle.bg_protocol.specs.Protocol.State.{ProtocolState, SeatState, seat_in}

-- after a save that was written the slots restore it; after one that was not, what they restored
-- before, or it
pub record SavesSurvive (w : ProtocolState) : Type 0 where
  pub referee_saved : (k : ℕ) (v : ProtocolState) → RefereeSaveStep w (outcomes.Saved k) v
      → v.referee.restorable ≡ Some (to_save_referee w)
  pub referee_failed : (v : ProtocolState) → RefereeSaveStep w outcomes.SaveFault v
      → (v.referee.restorable ≡ w.referee.restorable) ⊎ (v.referee.restorable ≡ Some (to_save_referee w))
  pub seat_saved : (player : Player) (k : ℕ) (new : SeatState)
      → SeatSaveStep w.id w.terms player (outcomes.Saved k) (seat_in w player) new
      → new.restorable ≡ Some (to_save_seat w.id w.terms player (seat_in w player))
  pub seat_failed : (player : Player) (new : SeatState)
      → SeatSaveStep w.id w.terms player outcomes.SaveFault (seat_in w player) new
      → (new.restorable ≡ (seat_in w player).restorable)
      ⊎ (new.restorable ≡ Some (to_save_seat w.id w.terms player (seat_in w player)))
