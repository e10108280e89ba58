-- All that a player sees of a match.
use Rattle.std.specs.Prelude.{◌≡◌, ◌==◌, ℕ, List, [], ◌++◌, if◌then◌else◌}
use Rattle.bg_board.specs.Position.{opponent}
use Rattle.bg_board.specs.declared.players.Player.{Player}
use Rattle.bg_match.specs.Match.{Log, StandsAt}
use Rattle.bg_match.specs.State.{State}
use Rattle.bg_match.specs.Terms.{match_length}
use Rattle.bg_text.specs.Boards.BoardText.{line_text, phase_line}
use Rattle.bg_table.specs.DrawnBoards.{board_drawn}
use Rattle.bg_table.specs.Headings.{cube_line, game_line, pips_line, score_line}
use Rattle.bg_table.specs.LastEntries.{AddsLastLine}
use Rattle.bg_table.specs.declared.drawings.Drawing.{Drawing}

-- the match, the game and the score
unfoldable pub heading_text : State → Player → List ℕ
heading_text s reader = line_text (game_line s) ++ line_text (score_line s reader)

-- the line of the cube: a match to one point is played without it
abbrev pub cube_part : State → Player → List ℕ
cube_part s reader = if match_length s.terms == 1 then [] else line_text (cube_line s reader)

-- the board, the pip counts and the cube
unfoldable pub table_text : State → Player → Drawing → List ℕ
table_text s reader drawing =
    board_drawn drawing s.board reader ++ line_text (pips_line s.board reader) ++ cube_part s reader

-- the text is what a player sees of a match: where it stands after its entries, what the other
-- player did last in this game, and what is to happen next
abbrev pub IsSeatView : Log → Player → Drawing → List ℕ → Type 0
IsSeatView log reader drawing text =
    (s : State) × (seen : List ℕ) × StandsAt log.terms log.entries s
    × AddsLastLine log (opponent reader) (heading_text s reader ++ table_text s reader drawing) seen
    × (text ≡ seen ++ line_text (phase_line s))
