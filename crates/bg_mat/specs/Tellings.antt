-- What the entries of a record tell in a match file.
use Rattle.std.specs.Prelude.{◌≡◌, ◌≢◌, ◌==◌, ◌&&◌, ℕ, ◌+◌, ◌-◌, ◌*◌, ◌<◌, ◌≤◌, Bool, true, not, nat_lt, Option, Some}
use Rattle.std.specs.Prelude.{None, List, [], ◌∷◌, ◌++◌, length}
use Rattle.std.specs.List.{AllByRecursion}
use Rattle.arrayvec.specs.ArrayVec.{ArrayVec}
use Rattle.bg_board.specs.FromTo.{FromTo}
use Rattle.bg_board.specs.Position.{Position, opponent, count}
use Rattle.bg_board.specs.declared.players.Player.{Player}
use Rattle.bg_match.specs.State.{State, score_of}
use Rattle.bg_match.specs.declared.phases.Phase.{Phase}
use Rattle.bg_match.specs.declared.phases.Phase.TheVariants as phase
use Rattle.bg_match.specs.declared.entries.Entry.{Entry}
use Rattle.bg_match.specs.declared.entries.Entry.TheVariants as entry
use Rattle.bg_mat.specs.Rows.Cells.{most_legs}
use Rattle.bg_mat.specs.Telling.{Item, Game, Scores, Does, Place, Tells, deed_of, IsOverMatch}
use Rattle.bg_mat.specs.Turns.{HasHits, is_reached, steps_of}
use Rattle.bg_mat.specs.declared.rows.cells.Cell.{Cell}
use Rattle.bg_mat.specs.declared.rows.cells.Cell.TheVariants as cell
use Rattle.bg_mat.specs.declared.rows.cells.Win.{Win}
use Rattle.bg_mat.specs.declared.awaiting.Awaited.{Awaited}
use Rattle.bg_mat.specs.declared.awaiting.Awaited.TheVariants as awaited
use Rattle.bg_mat.specs.declared.movements.legs.Leg.{Leg}
use Rattle.bg_mat.specs.declared.tellings.GameStart.{GameStart}
use Rattle.bg_mat.specs.declared.tellings.Telling.{Telling}
use Rattle.bg_mat.specs.declared.tellings.Telling.TheVariants as telling

-- the most that four digits write
abbrev pub greatest_number : ℕ
greatest_number = 9999

-- the number of a game has four digits at most, and the scores before it have sixteen bits
abbrev pub HasGameNumbers : GameStart → Type 0
HasGameNumbers game = (game.number ≤ greatest_number) × (game.x < 65536) × (game.o < 65536)

-- the dice that are left to move, told without a movement
abbrev pub TellsDice : Phase → Option Telling → Type 0
TellsDice (phase.ToMove player dice) told =
    told ≡ Some (telling.Does player (cell.Turn dice (record { items = [] })))
TellsDice (phase.Resigned player level (Some dice)) told =
    told ≡ Some (telling.Does player (cell.Turn dice (record { items = [] })))
TellsDice _ told = told ≡ None

-- the step ends where a single opposing checker stands, and none of the steps before it does
abbrev pub is_new_hit : Position → Player → List FromTo → FromTo → Bool
is_new_hit board player before step =
    nat_lt 0 step.to && (count board (opponent player) (25 - step.to) == 1 && not (is_reached step.to before))

-- a turn is told by its dice, its steps as legs, and its hits
abbrev pub TellsMove : Position → Phase → List FromTo → Option Telling → Type 0
TellsMove board (phase.ToMove player dice) turn told =
    (legs : ArrayVec Leg) × (told ≡ Some (telling.Does player (cell.Turn dice legs)))
    × (steps_of legs.items ≡ turn) × HasHits board player legs.items turn
TellsMove board _ turn told = told ≡ None

-- what the player does who is to roll, or to answer a double
abbrev pub IsDeedIn : Phase → Cell → Option Telling → Type 0
IsDeedIn (phase.ToAct player) cell told = told ≡ Some (telling.Does player cell)
IsDeedIn (phase.Doubled player) cell told = told ≡ Some (telling.Does player cell)
IsDeedIn _ cell told = told ≡ None

-- what an entry tells, but for a win
abbrev pub TellsEntry : State → Entry → Option Telling → Type 0
TellsEntry s (entry.Opening x o) told =
    (told ≡ Some (telling.Game (record { number = s.game; x = s.x_score; o = s.o_score })))
    × HasGameNumbers (record { number = s.game; x = s.x_score; o = s.o_score })
TellsEntry s (entry.Moved turn) told = TellsMove s.board s.phase turn told
TellsEntry s entry.Passed told = TellsMove s.board s.phase [] told
TellsEntry s entry.Doubled told =
    IsDeedIn s.phase (cell.Doubles (Some (2 * s.cube.value))) told × (2 * s.cube.value ≤ greatest_number)
TellsEntry s entry.Taken told = IsDeedIn s.phase cell.Takes told
TellsEntry s entry.Dropped told = IsDeedIn s.phase cell.Drops told
TellsEntry s entry.Accepted told = TellsDice s.phase told
TellsEntry s _ told = told ≡ None

-- the win of a player whose score grows from s to t
pub record IsWinBetween (s t : State) (winner : Player) (win : Win) : Type 0 where
  pub some : 0 < win.points
  pub few : win.points ≤ greatest_number
  pub grown : score_of t winner ≡ score_of s winner + win.points
  pub ends : win.ends_match ≡ true → IsOverMatch t

-- a win by a score that grows, in a match of this length
abbrev pub IsWinOf : Player → ℕ → ℕ → ℕ → Telling → Type 0
IsWinOf winner before after length (telling.Does player (cell.Wins win)) =
    (player ≡ winner) × (after ≡ before + win.points) × (win.ends_match ≡ true → length ≤ after)
IsWinOf winner before after length _ = ⊥

-- the win that leads from s to t, if a score grows
abbrev pub TellsWin : State → State → Option Telling → Type 0
TellsWin s t None = (t.x_score ≤ s.x_score) × (t.o_score ≤ s.o_score)
TellsWin s t (Some (telling.Does winner (cell.Wins win))) = IsWinBetween s t winner win
TellsWin s t _ = ⊥

-- the items of what is told
abbrev pub items_of_telling : Telling → List Item
items_of_telling (telling.Game game) = Game game.number ∷ Scores game.x game.o ∷ []
items_of_telling (telling.Does player cell) = Does player (deed_of cell) ∷ []

abbrev pub items_of_tellings : List Telling → List Item
items_of_tellings [] = []
items_of_tellings (first ∷ more) = items_of_telling first ++ items_of_tellings more

-- items lead from p to q, by these entries
abbrev pub AreOfItems : Place → List Item → List Entry → Place → Type 0
AreOfItems p [] entries q = (entries ≡ []) × (q ≡ p)
AreOfItems p (item ∷ more) entries q =
    (own rest : List Entry) × (middle : Place) × Tells p item own middle × AreOfItems middle more rest q
    × (entries ≡ own ++ rest)

-- the leg is one on the board, to a lower point
abbrev pub IsOnBoard : Leg → Type 0
IsOnBoard leg = (leg.step.from ≤ 25) × (leg.step.to < leg.step.from)

-- the legs of a cell are on the board, and at most four, and its numbers have four digits at most.
-- What is not written has none
abbrev pub HasNumbers : Cell → Type 0
HasNumbers (cell.Turn dice legs) = AllByRecursion IsOnBoard legs.items × (length legs.items ≤ most_legs)
HasNumbers (cell.CannotMove dice) = ⊥
HasNumbers (cell.Unknown dice) = ⊥
HasNumbers (cell.Doubles None) = ⊥
HasNumbers (cell.Doubles (Some shows)) = shows ≤ greatest_number
HasNumbers (cell.Wins win) = win.points ≤ greatest_number
HasNumbers _ = Unit {0}

-- what may follow a cell: a win ends its game
abbrev pub after_cell : Cell → Awaited
after_cell (cell.Wins win) = awaited.Game
after_cell _ = awaited.Row

-- games begin where one may, and rows stand within games
abbrev pub IsInOrder : Awaited → List Telling → Awaited → Type 0
IsInOrder here [] there = there ≡ here
IsInOrder here (telling.Game game ∷ more) there =
    (here ≢ awaited.Scores) × HasGameNumbers game × IsInOrder awaited.Row more there
IsInOrder here (telling.Does player cell ∷ more) there =
    (here ≡ awaited.Row) × HasNumbers cell × IsInOrder (after_cell cell) more there

-- a telling is added, if it is there
abbrev pub with_telling : List Telling → Option Telling → List Telling
with_telling tellings None = tellings
with_telling tellings (Some told) = tellings ++ told ∷ []
