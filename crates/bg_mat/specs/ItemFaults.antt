-- Why what a line tells is refused where a match stands: the first fault of the list in
-- docs/FORMATS.md that applies.
use Rattle.std.specs.Prelude.{◌≡◌, ◌≢◌, ◌⊎◌, ℕ, ◌+◌, ◌*◌, ◌<◌, Bool, true, false, Option, IfSome, List, [], ◌∷◌, ◌++◌}
use Rattle.bg_board.specs.FromTo.{FromTo}
use Rattle.bg_board.specs.Position.{Position, opponent}
use Rattle.bg_board.specs.declared.players.Player.{Player}
use Rattle.bg_turns.specs.Dice.{first_pips, second_pips}
use Rattle.bg_turns.specs.Turn.{IsLegalTurn}
use Rattle.bg_turns.specs.declared.throws.Dice.{Dice}
use Rattle.bg_match.specs.Actor.{passes}
use Rattle.bg_match.specs.Follows.{Follows}
use Rattle.bg_match.specs.Level.{multiple}
use Rattle.bg_match.specs.Match.{Leads, Log, IsRecordFault}
use Rattle.bg_match.specs.State.{State, score_of}
use Rattle.bg_match.specs.declared.levels.Level.{Level}
use Rattle.bg_match.specs.declared.phases.Phase.TheVariants as phase
use Rattle.bg_match.specs.declared.entries.Entry.{Entry}
use Rattle.bg_match.specs.declared.entries.Entry.TheVariants as entry
use Rattle.bg_match.specs.declared.entries.EntryFault.{EntryFault}
use Rattle.bg_match.specs.declared.entries.EntryFault.TheVariants as entry_fault
use Rattle.bg_mat.specs.Telling.{BringsDice, Deed, Turn, CannotMove, Unknown, Doubles, Takes, Drops, Wins, Does, Game}
use Rattle.bg_mat.specs.Telling.{Scores, GoesOn}
use Rattle.bg_mat.specs.Telling.{IsOver, IsOverMatch, Item, MayResign, Place, before_of}
use Rattle.bg_mat.specs.Turns.{HasMovement, IsToldTurn, IsUnambiguous, SameMovement, steps_of}
use Rattle.bg_mat.specs.declared.faults.MatFault.{MatFault}
use Rattle.bg_mat.specs.declared.faults.MatFault.TheVariants as why
use Rattle.bg_mat.specs.declared.movements.legs.Leg.{Leg}

-- the rules refuse the entry behind a record, by this fault
abbrev pub RefusesEntry : Log → Entry → MatFault → Type 0
RefusesEntry log e fault =
    (own : EntryFault) × (fault ≡ why.Entry own) × (own ≢ entry_fault.Memory) × IsRecordFault own log e

-- a record with one entry more
abbrev pub with_entry : Log → Entry → Log
with_entry log e = record log { entries = log.entries ++ e ∷ [] }

-- the player brings no such dice: he is neither to open the game nor to roll, or opens it with two
-- equal dice
abbrev pub IsDiceFault : State → Player → Dice → MatFault → Type 0
IsDiceFault s player dice why.OutOfTurn = (s.phase ≢ phase.Opening) × (s.phase ≢ phase.ToAct player)
IsDiceFault s player dice (why.Entry entry_fault.EqualOpening) =
    (s.phase ≡ phase.Opening) × (first_pips dice ≡ second_pips dice)
IsDiceFault s player dice _ = ⊥

-- no legal turn has the movement, or one has, and none has it with these hits
abbrev pub IsMovementFault : Position → Player → Dice → List Leg → MatFault → Type 0
IsMovementFault board player dice legs why.NoSuchTurn =
    (turn : List FromTo) → IsLegalTurn board player dice turn → SameMovement (steps_of legs) turn → ⊥
IsMovementFault board player dice legs why.WrongHits =
    ((turn : List FromTo) × IsLegalTurn board player dice turn × SameMovement (steps_of legs) turn)
    × ((turn : List FromTo) → HasMovement board player dice legs turn → ⊥)
IsMovementFault board player dice legs _ = ⊥

-- the movement tells no turn, for this fault
abbrev pub TellsNoTurn : Position → Player → Dice → List Leg → MatFault → Type 0
TellsNoTurn board player dice legs fault =
    IsMovementFault board player dice legs fault
    × ((turn : List FromTo) → IsUnambiguous board player dice legs turn → ⊥)

-- no turn is told behind the dice, or the rules refuse it
abbrev pub IsMoveFault : Log → State → Player → Dice → List Leg → MatFault → Type 0
IsMoveFault log s player dice legs fault =
    TellsNoTurn s.board player dice legs fault
    ⊎ ((turn : List FromTo) × IsToldTurn s.board player dice legs turn × RefusesEntry log (entry.Moved turn) fault)

-- neither the empty turn is legal behind the dice, nor is the turn passed
abbrev pub IsEmptyFault : Log → State → Player → Dice → MatFault → Type 0
IsEmptyFault log s player dice fault =
    ((passes s ≡ true) × RefusesEntry log entry.Passed fault)
    ⊎ ((passes s ≡ false) × IsMoveFault log s player dice [] fault)

-- the dice are refused: they can't be brought, or the rules refuse the entry that brings them
abbrev pub IsRollFault : Log → State → Player → Dice → MatFault → Type 0
IsRollFault log s player dice fault =
    IsDiceFault s player dice fault
    ⊎ ((roll : Entry) × BringsDice s player dice roll × RefusesEntry log roll fault)

-- the dice are refused, or what comes behind them is
abbrev pub IsThrowFault : Log → State → Player → Dice → (Log → State → MatFault → Type 0) → MatFault → Type 0
IsThrowFault log s player dice Then fault =
    IsRollFault log s player dice fault
    ⊎ ((roll : Entry) × (t : State) × BringsDice s player dice roll × Follows s roll t
    × Then (with_entry log roll) t fault)

-- dice alone are refused by what follows them. They stay without a turn, or the player has none to
-- play
abbrev pub IsPendingFault : Bool → Log → State → Player → Dice → MatFault → Type 0
IsPendingFault stays log s player dice fault =
    IsThrowFault log s player dice (λ l t why. (stays ≡ false) × IsEmptyFault l t player dice why) fault

-- a double: it is not for the player to double, or the cube will show another number
abbrev pub IsDoubleFault : Log → State → Player → Option ℕ → MatFault → Type 0
IsDoubleFault log s player shows fault =
    ((fault ≡ why.OutOfTurn) × (s.phase ≢ phase.ToAct player))
    ⊎ ((s.phase ≡ phase.ToAct player)
    × (((fault ≡ why.WrongCube) × (IfSome shows (λ n. n ≡ 2 * s.cube.value) → ⊥))
    ⊎ (IfSome shows (λ n. n ≡ 2 * s.cube.value) × RefusesEntry log entry.Doubled fault)))

-- an answer to a double: the player has none to answer
abbrev pub IsAnswerFault : Log → State → Player → Entry → MatFault → Type 0
IsAnswerFault log s player answer fault =
    ((fault ≡ why.OutOfTurn) × (s.phase ≢ phase.Doubled player))
    ⊎ ((s.phase ≡ phase.Doubled player) × RefusesEntry log answer fault)

-- the offer to resign, or its acceptance
abbrev pub IsResignFault : Log → Level → MatFault → Type 0
IsResignFault log level fault =
    RefusesEntry log (entry.Resigned level) fault
    ⊎ RefusesEntry (with_entry log (entry.Resigned level)) entry.Accepted fault

-- the win of a game that goes on: the other player is neither to roll nor to move, or the points
-- are not once, twice or three times the cube, or the rules refuse what he does
abbrev pub IsOfferFault : Log → State → Player → ℕ → MatFault → Type 0
IsOfferFault log s winner won fault =
    ((fault ≡ why.ResignsOutOfTurn) × (MayResign s (opponent winner) → ⊥))
    ⊎ (MayResign s (opponent winner)
    × (((fault ≡ why.WrongPoints) × ((level : Level) → won ≡ multiple level * s.cube.value → ⊥))
    ⊎ ((level : Level) × (won ≡ multiple level * s.cube.value) × IsResignFault log level fault)))

-- the win is said to end the match, and does not
abbrev pub IsEndFault : State → Bool → MatFault → Type 0
IsEndFault s ends fault = (fault ≡ why.MatchGoesOn) × (ends ≡ true) × (IsOverMatch s → ⊥)

-- the game was won with these points
abbrev pub HasWon : Place → Player → ℕ → Type 0
HasWon p winner won = (0 < won) × (score_of p.state winner ≡ before_of p winner + won)

-- a win, of a game that goes on or of one that was won
abbrev pub IsWinFault : Log → Place → Player → ℕ → Bool → MatFault → Type 0
IsWinFault log p winner won ends fault =
    (GoesOn p × (IsOfferFault log p.state winner won fault
    ⊎ ((level : Level) × (t : State) × (won ≡ multiple level * p.state.cube.value)
    × Leads p.state (entry.Resigned level ∷ entry.Accepted ∷ []) t × IsEndFault t ends fault)))
    ⊎ (IsOver p × (((fault ≡ why.WrongPoints) × (HasWon p winner won → ⊥))
    ⊎ (HasWon p winner won × IsEndFault p.state ends fault)))

-- what a player does, but for a win, in a game that goes on
abbrev pub IsActFault : Log → State → Player → Deed → MatFault → Type 0
IsActFault log s player (Turn dice []) fault = IsDiceFault s player dice fault
IsActFault log s player (Turn dice (leg ∷ legs)) fault =
    IsThrowFault log s player dice (λ l t why. IsMoveFault l t player dice (leg ∷ legs) why) fault
IsActFault log s player (CannotMove dice) fault =
    IsThrowFault log s player dice (λ l t why. IsEmptyFault l t player dice why) fault
IsActFault log s player (Unknown dice) fault = fault ≡ why.UnknownTurn
IsActFault log s player (Doubles shows) fault = IsDoubleFault log s player shows fault
IsActFault log s player Takes fault = IsAnswerFault log s player entry.Taken fault
IsActFault log s player Drops fault = IsAnswerFault log s player entry.Dropped fault
IsActFault log s player (Wins won ends) fault = ⊥

-- what a player does: only a win is told of a game that is over
abbrev pub IsDeedFault : Log → Place → Player → Deed → MatFault → Type 0
IsDeedFault log p winner (Wins won ends) fault = IsWinFault log p winner won ends fault
IsDeedFault log p player deed fault =
    ((fault ≡ why.GameOver) × IsOver p) ⊎ (GoesOn p × IsActFault log p.state player deed fault)

-- a game: it is not the next one, or the one before it goes on, or the match is over
abbrev pub IsGameFault : Place → ℕ → MatFault → Type 0
IsGameFault p number fault =
    ((fault ≡ why.WrongGame) × (number ≢ p.game + 1))
    ⊎ ((number ≡ p.game + 1) × ((number ≢ p.state.game) ⊎ (p.state.phase ≢ phase.Opening))
    × (((fault ≡ why.Entry entry_fault.MatchOver) × IsOverMatch p.state)
    ⊎ ((fault ≡ why.GameGoesOn) × (IsOverMatch p.state → ⊥))))

-- an item at a place, where the record so far is this one and no dice are pending
abbrev pub IsItemFault : Log → Place → Item → MatFault → Type 0
IsItemFault log p (Game number) fault = IsGameFault p number fault
IsItemFault log p (Scores x o) fault = ⊥
IsItemFault log p (Does player deed) fault = IsDeedFault log p player deed fault
