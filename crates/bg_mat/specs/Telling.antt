-- What the items of a file tell of a match.
use Rattle.std.specs.Prelude.{◌≡◌, ◌≢◌, ◌⊎◌, ℕ, ◌+◌, ◌*◌, ◌<◌, Bool, true, Option, IfSome, List, [], ◌∷◌, ◌++◌}
use Rattle.std.specs.Prelude.{length, replicate}
use Rattle.bg_board.specs.Position.{Position, opponent}
use Rattle.bg_board.specs.declared.players.Player.{Player}
use Rattle.bg_board.specs.declared.players.Player.TheVariants.{X, O}
use Rattle.bg_turns.specs.declared.throws.Dice.{Dice}
use Rattle.bg_match.specs.Follows.{opener}
use Rattle.bg_match.specs.Level.{multiple}
use Rattle.bg_match.specs.Match.{Leads}
use Rattle.bg_match.specs.State.{State, score_of, IsRunning}
use Rattle.bg_match.specs.declared.levels.Level.{Level}
use Rattle.bg_match.specs.declared.phases.Phase.TheVariants as phase
use Rattle.bg_match.specs.declared.entries.Entry.{Entry}
use Rattle.bg_match.specs.declared.entries.Entry.TheVariants as entry
use Rattle.bg_mat.specs.Turns.{IsToldTurn}
use Rattle.bg_mat.specs.declared.movements.legs.Leg.{Leg}
use Rattle.bg_mat.specs.declared.rows.cells.Cell.{Cell}
use Rattle.bg_mat.specs.declared.rows.cells.Cell.TheVariants as cell

-- what a player does, by a cell: he brings dice and moves, or can't move, or it is not known what
-- he moves; he doubles, to so much where the file says so, takes, drops, or wins so many points,
-- which may be said to end the match
pub data Deed : Type 0 where
  Turn : Dice → List Leg → Deed
  CannotMove : Dice → Deed
  Unknown : Dice → Deed
  Doubles : Option ℕ → Deed
  Takes : Deed
  Drops : Deed
  Wins : ℕ → Bool → Deed

abbrev pub deed_of : Cell → Deed
deed_of (cell.Turn dice legs) = Turn dice legs.items
deed_of (cell.CannotMove dice) = CannotMove dice
deed_of (cell.Unknown dice) = Unknown dice
deed_of (cell.Doubles shows) = Doubles shows
deed_of cell.Takes = Takes
deed_of cell.Drops = Drops
deed_of (cell.Wins win) = Wins win.points win.ends_match

-- what a file tells: that a game of this number begins, the scores before it, and what players do
pub data Item : Type 0 where
  Game : ℕ → Item
  Scores : ℕ → ℕ → Item
  Does : Player → Deed → Item

-- an item, and the line of the file that tells it
pub record Told : Type 0 where
  pub line : ℕ
  pub item : Item

-- where the match stands that a file tells so far: also the game that is told, 0 before the first
-- one, and the scores before it
pub record Place : Type 0 where
  pub state : State
  pub game : ℕ
  pub x_before : ℕ
  pub o_before : ℕ

abbrev pub before_of : Place → Player → ℕ
before_of p X = p.x_before
before_of p O = p.o_before

-- the game that is told goes on
pub record GoesOn (p : Place) : Type 0 where
  pub running : IsRunning p.state.phase
  pub same : p.state.game ≡ p.game

-- the game that is told is over: the match is, or the next game is to be opened
abbrev pub IsOver : Place → Type 0
IsOver p = ((winner : Player) × (p.state.phase ≡ phase.Over winner)) ⊎ (p.state.game ≢ p.game)

-- the same two dice, in either order
abbrev pub SameDice : Dice → Dice → Type 0
SameDice a b = (a ≡ b) ⊎ (a ≡ record { first = b.second; second = b.first })

-- the entry by which a player brings dice: he opens the game, or rolls
abbrev pub BringsDice : State → Player → Dice → Entry → Type 0
BringsDice s player dice (entry.Opening x o) =
    (player ≡ opener x o) × SameDice dice (record { first = x; second = o })
BringsDice s player dice (entry.Rolled thrown) = (s.phase ≡ phase.ToAct player) × SameDice dice thrown
BringsDice s player dice _ = ⊥

-- the entry by which he moves: a turn that the legs tell, or a pass where there are none
abbrev pub MovesBy : Position → Player → Dice → List Leg → Entry → Type 0
MovesBy board player dice legs (entry.Moved turn) = IsToldTurn board player dice legs turn
MovesBy board player dice legs entry.Passed = legs ≡ []
MovesBy board player dice legs _ = ⊥

-- the entries of a turn: the dice and the move, or the dice alone where no movement is told
abbrev pub AreOfTurn : State → Player → Dice → List Leg → List Entry → Type 0
AreOfTurn s player dice legs entries =
    (roll : Entry) × BringsDice s player dice roll
    × (((legs ≡ []) × (entries ≡ roll ∷ []))
    ⊎ ((move : Entry) × (entries ≡ roll ∷ move ∷ []) × MovesBy s.board player dice legs move))

-- the player may offer to resign: he is to roll, or to move
abbrev pub MayResign : State → Player → Type 0
MayResign s loser = (s.phase ≡ phase.ToAct loser) ⊎ ((dice : Dice) × (s.phase ≡ phase.ToMove loser dice))

-- the entries of a win: none where the game was won with these points, else the other player's
-- offer to resign and its acceptance, at the level that the points are of the cube
abbrev pub AreOfWin : Place → Player → ℕ → List Entry → Type 0
AreOfWin p winner won entries =
    (IsOver p × (0 < won) × (score_of p.state winner ≡ before_of p winner + won) × (entries ≡ []))
    ⊎ (GoesOn p × MayResign p.state (opponent winner)
    × ((level : Level) × (won ≡ multiple level * p.state.cube.value)
    × (entries ≡ entry.Resigned level ∷ entry.Accepted ∷ [])))

-- the match is over
abbrev pub IsOverMatch : State → Type 0
IsOverMatch s = (winner : Player) × (s.phase ≡ phase.Over winner)

-- the entries of what a player does at a place, and the state after them
abbrev pub AreOf : Place → Player → Deed → List Entry → State → Type 0
AreOf p player (Turn dice legs) entries after = GoesOn p × AreOfTurn p.state player dice legs entries
AreOf p player (CannotMove dice) entries after =
    GoesOn p × ((roll move : Entry) × BringsDice p.state player dice roll × (entries ≡ roll ∷ move ∷ [])
    × MovesBy p.state.board player dice [] move)
AreOf p player (Unknown dice) entries after = ⊥
AreOf p player (Doubles shows) entries after =
    GoesOn p × (p.state.phase ≡ phase.ToAct player) × IfSome shows (λ n. n ≡ 2 * p.state.cube.value)
    × (entries ≡ entry.Doubled ∷ [])
AreOf p player Takes entries after =
    GoesOn p × (p.state.phase ≡ phase.Doubled player) × (entries ≡ entry.Taken ∷ [])
AreOf p player Drops entries after =
    GoesOn p × (p.state.phase ≡ phase.Doubled player) × (entries ≡ entry.Dropped ∷ [])
AreOf p player (Wins won ends_match) entries after =
    AreOfWin p player won entries
    × (ends_match ≡ true → IsOverMatch after)

-- an item leads from p to q, by these entries
abbrev pub Tells : Place → Item → List Entry → Place → Type 0
Tells p (Game number) entries q =
    (entries ≡ []) × (p.state.phase ≡ phase.Opening) × (number ≡ p.state.game) × (number ≢ p.game)
    × (q ≡ record { state = p.state; game = number; x_before = p.state.x_score; o_before = p.state.o_score })
Tells p (Scores x o) entries q =
    (entries ≡ []) × (q ≡ p) × (x ≡ p.state.x_score) × (o ≡ p.state.o_score)
Tells p (Does player deed) entries q =
    (q ≡ record p { state = q.state }) × Leads p.state entries q.state × AreOf p player deed entries q.state

-- items lead from p to q, by these entries; beside each entry stands the line that tells it
abbrev pub AreTold : Place → List Told → List Entry → List ℕ → Place → Type 0
AreTold p [] entries lines q = (entries ≡ []) × (lines ≡ []) × (q ≡ p)
AreTold p (told ∷ more) entries lines q =
    (own rest : List Entry) × (others : List ℕ) × (middle : Place) × Tells p told.item own middle
    × AreTold middle more rest others q × (entries ≡ own ++ rest)
    × (lines ≡ replicate (length own) told.line ++ others)
