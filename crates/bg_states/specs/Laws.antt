-- What a peer is told.
use Rattle.std.specs.Prelude.{◌≡◌, ℕ, Option, List}
use Rattle.bg_board.specs.declared.players.Player.{Player}
use Rattle.bg_match.specs.Match.{Log}
use Rattle.bg_states.specs.StateTexts.{IsStateText}

-- one text tells a peer with this seat, or with none, the state of a record
abbrev pub IsOneText : Type 0
IsOneText = (log : Log) (seat : Option Player) (one two : List ℕ) → IsStateText log seat one → IsStateText log seat two
    → one ≡ two
