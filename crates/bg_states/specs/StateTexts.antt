-- The state of a match, as a peer is told it.
use Rattle.std.specs.Prelude.{◌≡◌, ℕ, ◌+◌, ◌-◌, Option, Some, None, List, [], ◌++◌, codes, length, min, true}
use Rattle.bg_board.specs.declared.players.Player.{Player}
use Rattle.bg_match.specs.Match.{Log, StandsAt}
use Rattle.bg_match.specs.State.{State}
use Rattle.bg_states.specs.Boards.{board_text}
use Rattle.bg_states.specs.Headings.{cube_text, game_text, match_text, owner_letter, score_text}
use Rattle.bg_states.specs.LastLines.{AreLines, most_last}
use Rattle.bg_states.specs.May.{TellsMay}
use Rattle.bg_states.specs.Phases.{phase_text}

-- where a match stands
unfoldable pub standing_text : State → List ℕ
standing_text s = game_text s ++ score_text s ++ cube_text s.cube ++ phase_text s ++ board_text s.board

-- the lines of the last entries, the oldest first
abbrev pub TellsLast : Log → List ℕ → Type 0
TellsLast log text =
    let told = min (length log.entries) most_last in
    (lines : List ℕ) × AreLines log (length log.entries - told + 1) told true lines
    × (text ≡ codes ",\"last\":[" ++ lines ++ codes "]")

-- that is added
abbrev pub AddsLast : Log → List ℕ → List ℕ → Type 0
AddsLast log old new = (text : List ℕ) × TellsLast log text × (new ≡ old ++ text)

-- what a player is told beside that; whoever has no seat is told nothing more
abbrev pub TellsSeat : State → Option Player → List ℕ → Type 0
TellsSeat s None text = text ≡ []
TellsSeat s (Some player) text = TellsMay s player text

-- whose seat it is, and that, is added
abbrev pub AddsSeat : State → Option Player → List ℕ → List ℕ → Type 0
AddsSeat s seat old new =
    (text : List ℕ) × TellsSeat s seat text × (new ≡ old ++ codes ",\"you\":\"" ++ owner_letter seat ++ codes "\"" ++ text)

-- The text tells a peer with this seat, or with none, the state of the record. Nothing else is in
-- it.
pub record IsStateText (log : Log) (seat : Option Player) (text : List ℕ) : Type 0 where
  pub state : State
  pub stands : StandsAt log.terms log.entries state
  pub last : List ℕ
  pub is_last : TellsLast log last
  pub may : List ℕ
  pub is_may : TellsSeat state seat may
  pub is_text : text ≡ match_text log ++ standing_text state ++ last ++ codes ",\"you\":\"" ++ owner_letter seat
      ++ codes "\"" ++ may ++ codes "}"
