-- What holds of every ID.
use Rattle.std.specs.Prelude.{◌≡◌, length}
use Rattle.bg_board.specs.Position.{Position, IsPosition}
use Rattle.bg_board.specs.declared.players.Player.{Player}
use Rattle.bg_match.specs.State.{State, IsState}
use Rattle.bg_ids.specs.PositionIds.{position_text}
use Rattle.bg_ids.specs.MatchIds.{match_fields, match_text}

-- a Position ID is that of one board, where it is known who is on roll
abbrev pub PositionIdsDiffer : Type 0
PositionIdsDiffer = (b c : Position) (on_roll : Player) → IsPosition b → IsPosition c
    → position_text b on_roll ≡ position_text c on_roll → b ≡ c

-- a Match ID is that of one list of fields
abbrev pub MatchIdsDiffer : Type 0
MatchIdsDiffer = (s t : State) → IsState s → IsState t → match_text s ≡ match_text t → match_fields s ≡ match_fields t

-- a Position ID has 14 characters, and a Match ID has 12
abbrev pub IdsAreWhole : Type 0
IdsAreWhole = ((b : Position) (on_roll : Player) → length (position_text b on_roll) ≡ 14)
    × ((s : State) → length (match_text s) ≡ 12)
