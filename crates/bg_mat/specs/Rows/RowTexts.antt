-- The texts of lines.
use Rattle.std.specs.Prelude.{◌≡◌, ℕ, ◌+◌, ◌-◌, max, nat_lt, Bool, true, not, ◌||◌, Some, List, [], ◌∷◌, ◌++◌, length}
use Rattle.std.specs.Prelude.{replicate, codes, if◌then◌else◌}
use Rattle.std.specs.Fmt.{decimal}
use Rattle.bg_board.specs.declared.players.Player.{Player}
use Rattle.bg_board.specs.declared.players.Player.TheVariants.{X, O}
use Rattle.bg_mat.specs.Rows.CellTexts.{cell_text}
use Rattle.bg_mat.specs.Files.{is_win}
use Rattle.bg_mat.specs.declared.rows.cells.Cell.{Cell}
use Rattle.bg_mat.specs.declared.rows.cells.Cell.TheVariants as cell
use Rattle.bg_mat.specs.declared.tellings.GameStart.{GameStart}
use Rattle.bg_mat.specs.declared.tellings.Telling.{Telling}
use Rattle.bg_mat.specs.declared.tellings.Telling.TheVariants as telling

-- a text with blanks behind it, at least one, up to a width
abbrev pub padded : ℕ → List ℕ → List ℕ
padded width text = text ++ replicate (max 1 (width - length text)) 32

-- how many blanks stand before the number of a row
abbrev pub blanks_before : ℕ → ℕ
blanks_before row = if nat_lt row 10 then 2 else if nat_lt row 100 then 1 else 0

-- the number of a row at the right of three places, and a bracket; a number of five digits is left
-- out
abbrev pub row_number : ℕ → List ℕ
row_number row =
    if nat_lt 9999 row then replicate 5 32 else replicate (blanks_before row) 32 ++ decimal row ++ codes ") "

-- a row of two cells: the left column is 28 wide
abbrev pub both_text : ℕ → Cell → Cell → List ℕ
both_text row left right = row_number row ++ padded 28 (cell_text left) ++ cell_text right ++ codes "\n"

-- what a row of one cell begins with: the row of a win has no number
abbrev pub row_start : ℕ → Cell → List ℕ
row_start row (cell.Wins win) = replicate 5 32
row_start row _ = row_number row

-- a cell that is alone in its row, in the player's column. Behind a cell of X, but for a win, the
-- column is filled
abbrev pub in_column : Player → Cell → List ℕ
in_column X (cell.Wins win) = cell_text (cell.Wins win)
in_column X cell = padded 28 (cell_text cell)
in_column O cell = replicate 28 32 ++ cell_text cell

-- a row of one cell
abbrev pub alone_text : ℕ → Player → Cell → List ℕ
alone_text row player cell = row_start row cell ++ in_column player cell ++ codes "\n"

abbrev pub score_text : List ℕ → ℕ → List ℕ
score_text name score = name ++ codes " : " ++ decimal score

-- the lines that head a game: a blank one, the number of the game, and the scores before it
abbrev pub game_text : GameStart → List ℕ
game_text game =
    codes "\n Game " ++ decimal game.number ++ codes "\n " ++ padded 31 (score_text (codes "X") game.x)
    ++ score_text (codes "O") game.o ++ codes "\n"

-- what stands in the file: games, and their rows, each with one cell or with two
pub data Line : Type 0 where
  Heading : GameStart → Line
  Alone : Player → Cell → Line
  Both : Cell → Cell → Line

-- a cell of X shares its row with the cell of O behind it. A win shares one with a drop alone,
-- which it follows
abbrev pub share_row : Cell → Cell → Bool
share_row cell.Drops right = true
share_row left right = not (is_win (Some left) || is_win (Some right))

-- a cell of X before lines, the first of which may be the cell of O behind it
abbrev pub beside : Cell → List Line → List Line
beside left (Alone O right ∷ lines) =
    if share_row left right then Both left right ∷ lines else Alone X left ∷ Alone O right ∷ lines
beside left lines = Alone X left ∷ lines

-- what is told, in lines
abbrev pub grouped : List Telling → List Line
grouped [] = []
grouped (telling.Game game ∷ more) = Heading game ∷ grouped more
grouped (telling.Does X cell ∷ more) = beside cell (grouped more)
grouped (telling.Does O cell ∷ more) = Alone O cell ∷ grouped more

-- the number of the next row; all behind 9999 have the same, which is not written
abbrev pub next_row : ℕ → ℕ
next_row row = if nat_lt row 10000 then row + 1 else row

-- lines, of which the first row has this number
abbrev pub lines_text : ℕ → List Line → List ℕ
lines_text row [] = []
lines_text row (Heading game ∷ lines) = game_text game ++ lines_text 1 lines
lines_text row (Alone player cell ∷ lines) = alone_text row player cell ++ lines_text (next_row row) lines
lines_text row (Both left right ∷ lines) = both_text row left right ++ lines_text (next_row row) lines

-- the line of the length of a match
abbrev pub length_text : ℕ → List ℕ
length_text points = codes " " ++ decimal points ++ codes " point match\n"

-- the row of the first of these is written, and the rest is left
abbrev pub WritesRow : ℕ → List Telling → List Telling → List ℕ → List ℕ → Type 0
WritesRow row tellings rest old new =
    old ++ lines_text row (grouped tellings) ≡ new ++ lines_text (next_row row) (grouped rest)
