-- A whole match file: what its lines tell, one after the other.
use Rattle.std.specs.Prelude.{◌≡◌, ◌⊎◌, ◌||◌, ℕ, ◌≤◌, ◌<◌, ◌+◌, Bool, true, false, Option, Some, None, List, [], ◌∷◌, ◌++◌, map}
use Rattle.std.specs.Prelude.{if◌then◌else◌, take, drop}
use Rattle.std.specs.Str.{bytes_eq}
use Rattle.bg_board.specs.declared.players.Player.{Player}
use Rattle.bg_board.specs.declared.players.Player.TheVariants.{X, O}
use Rattle.bg_match.specs.Match.{Log, IsLog}
use Rattle.bg_match.specs.State.{start_of}
use Rattle.bg_match.specs.Terms.{Terms, match_length, terms_of}
use Rattle.bg_match.specs.declared.levels.Level.{Level}
use Rattle.bg_match.specs.declared.limits.Rules.{Rules}
use Rattle.bg_match.specs.declared.entries.Entry.{Entry}
use Rattle.bg_match.specs.declared.entries.Entry.TheVariants as entry
use Rattle.bg_mat.specs.Rows.Cells.{TellsRow}
use Rattle.bg_mat.specs.Rows.Headings.{IsFiller, IsGameLine, IsHeader, IsLengthLine, IsScoresLine, SaysNoCrawford}
use Rattle.bg_text.specs.Judge.Judging.{lines_of}
use Rattle.bg_mat.specs.Telling.{Item, Game, Scores, Does, Told, Place, AreTold, deed_of}
use Rattle.bg_mat.specs.declared.rows.cells.Cell.{Cell}
use Rattle.bg_mat.specs.declared.rows.cells.Cell.TheVariants as cell
use Rattle.bg_mat.specs.declared.rows.Row.{Row}
use Rattle.bg_mat.specs.declared.awaiting.Awaited.{Awaited}
use Rattle.bg_mat.specs.declared.awaiting.Awaited.TheVariants as awaited

-- what a cell tells, if it is there
abbrev pub item_of : Player → Option Cell → List Item
item_of player None = []
item_of player (Some c) = Does player (deed_of c) ∷ []

-- what the cells of a row tell: X's first
abbrev pub items_of : Option Cell → Option Cell → List Item
items_of x o = item_of X x ++ item_of O o

-- the cell is a win
abbrev pub is_win : Option Cell → Bool
is_win (Some (cell.Wins win)) = true
is_win _ = false

-- what may follow a row: a win ends its game
abbrev pub after_row : Row → Awaited
after_row row = if is_win row.left || is_win row.right then awaited.Game else awaited.Row

-- the line `Game N`, behind which the scores are awaited
abbrev pub BeginsGame : List ℕ → List Item → Awaited → Type 0
BeginsGame line items next =
    (n : ℕ) × IsGameLine line n × (items ≡ Game n ∷ []) × (next ≡ awaited.Scores)

-- a line tells items, where a game, its scores or a row of it is awaited, and what may follow it
abbrev pub TellsAwaited : Awaited → List ℕ → List Item → Awaited → Type 0
TellsAwaited awaited.Game line items next = BeginsGame line items next
TellsAwaited awaited.Scores line items next =
    (x o : ℕ) × IsScoresLine line x o × (items ≡ Scores x o ∷ []) × (next ≡ awaited.Row)
TellsAwaited awaited.Row line items next =
    BeginsGame line items next
    ⊎ ((row : Row) × TellsRow line row × (items ≡ items_of row.left row.right) × (next ≡ after_row row))

-- a line tells nothing, or what is awaited
abbrev pub TellsLine : Awaited → List ℕ → List Item → Awaited → Type 0
TellsLine here line items next =
    (IsFiller line × (items ≡ []) × (next ≡ here)) ⊎ ((IsFiller line → ⊥) × TellsAwaited here line items next)

-- items of one line
abbrev pub numbered : ℕ → List Item → List Told
numbered n items = map (λ item. record { line = n; item = item }) items

-- lines, of which the first has the number n, tell items one after the other
abbrev pub TellsLines : Awaited → ℕ → List (List ℕ) → List Told → Awaited → Type 0
TellsLines here n [] told there = (told ≡ []) × (there ≡ here)
TellsLines here n (line ∷ lines) told there =
    (items : List Item) × (more : List Told) × (next : Awaited) × TellsLine here line items next
    × TellsLines next (n + 1) lines more there × (told ≡ numbered n items ++ more)

-- the bytes that may stand in front of a text to say that it is UTF-8
abbrev pub byte_order_mark : List ℕ
byte_order_mark = 239 ∷ 187 ∷ 191 ∷ []

-- a text without that mark
abbrev pub behind_mark : List ℕ → List ℕ
behind_mark input = if bytes_eq (take 3 input) byte_order_mark then drop 3 input else input

-- the lines of an input, without that mark
abbrev pub lines_in : List ℕ → List (List ℕ)
lines_in input = lines_of (behind_mark input)

-- lines are those of a match that would have a Crawford game: the first of them that tells
-- something is its length, and that is more than one point
abbrev pub HasCrawford : List (List ℕ) → Type 0
HasCrawford [] = ⊥
HasCrawford (line ∷ lines) =
    (IsHeader line × HasCrawford lines)
    ⊎ ((IsHeader line → ⊥) × ((points : ℕ) × IsLengthLine line points × (1 < points)))

-- lines, of which the first has the number n, are a match file: first its length, then its games.
-- Something may follow
abbrev pub TellsFile : ℕ → List (List ℕ) → ℕ → List Told → Awaited → Type 0
TellsFile n [] points told there = ⊥
TellsFile n (line ∷ lines) points told there =
    (IsHeader line × (SaysNoCrawford line → points ≤ 1) × TellsFile (n + 1) lines points told there)
    ⊎ (IsLengthLine line points × TellsLines awaited.Game (n + 1) lines told there)

-- a file that may go on so ends within a game: no row of a win has ended the last one that it tells
abbrev pub is_within_game : Awaited → Bool
is_within_game awaited.Game = false
is_within_game _ = true

-- lines are a match file, and it is said whether it ends within a game
abbrev pub EndsFile : List (List ℕ) → Bool → Type 0
EndsFile lines within =
    (points : ℕ) × (told : List Told) × (there : Awaited) × TellsFile 1 lines points told there
    × (within ≡ is_within_game there)

-- where a match stands before anything is told of it
abbrev pub start_place : Terms → Place
start_place terms = record { state = start_of terms; game = 0; x_before = 0; o_before = 0 }

-- lines begin as those of a match file: the first of them that tells something is the length of a
-- match
abbrev pub BeginAsMatchFile : List (List ℕ) → Type 0
BeginAsMatchFile [] = ⊥
BeginAsMatchFile (line ∷ lines) =
    (IsHeader line × BeginAsMatchFile lines) ⊎ ((IsHeader line → ⊥) × ((n : ℕ) × IsLengthLine line n))

-- the lines are a match file, and the record, with the line of each entry, is what it tells: a
-- legal match
pub record ReadsFile (id : ℕ) (rules : Rules) (input : List (List ℕ)) (log : Log) (lines : List ℕ) : Type 0 where
  pub points : ℕ
  pub told : List Told
  pub there : Awaited
  pub place : Place
  pub file : TellsFile 1 input points told there
  pub leads : AreTold (start_place (terms_of points rules)) told log.entries lines place
  pub terms : log.terms ≡ terms_of points rules
  pub match_id : log.id ≡ id
  pub legal : IsLog log

-- the input is a match file, and the record, with the line of each entry, is what it tells
abbrev pub Imports : ℕ → Rules → List ℕ → Log → List ℕ → Type 0
Imports id rules input log lines = ReadsFile id rules (lines_in input) log lines

-- the entries that a match file keeps where an offer to resign is open, or none is: it keeps the
-- offer once that is accepted
abbrev pub kept_behind : Option Level → List Entry → List Entry
kept_behind offer [] = []
kept_behind offer (entry.Resigned level ∷ rest) = kept_behind (Some level) rest
kept_behind offer (entry.Rejected ∷ rest) = kept_behind None rest
kept_behind (Some level) (entry.Accepted ∷ rest) = entry.Resigned level ∷ entry.Accepted ∷ kept_behind None rest
kept_behind offer (e ∷ rest) = e ∷ kept_behind None rest

-- the entries that a match file keeps: an offer to resign that is not accepted is not among them
abbrev pub kept_entries : List Entry → List Entry
kept_entries entries = kept_behind None entries

-- the text is a match file that tells what it keeps of the record
pub record Exports (log : Log) (text : List ℕ) : Type 0 where
  pub told : List Told
  pub there : Awaited
  pub lines : List ℕ
  pub place : Place
  pub file : TellsFile 1 (lines_in text) (match_length log.terms) told there
  pub leads : AreTold (start_place log.terms) told (kept_entries log.entries) lines place
