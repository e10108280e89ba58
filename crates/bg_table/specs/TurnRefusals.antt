-- Why a turn is refused, as a sentence.
use Rattle.std.specs.Prelude.{◌≡◌, ◌==◌, ◌↔◌, ℕ, Bool, true, false, Option, List, [], ◌∷◌, ◌++◌, length, codes, AllPairs}
use Rattle.std.specs.Prelude.{Contains, if◌then◌else◌}
use Rattle.std.specs.Fmt.{decimal}
use Rattle.bg_board.specs.FromTo.{FromTo}
use Rattle.bg_board.specs.Position.{Position}
use Rattle.bg_board.specs.declared.players.Player.{Player}
use Rattle.bg_turns.specs.Dice.{first_pips, larger_die, second_pips}
use Rattle.bg_turns.specs.Turn.{IsLegalTurn}
use Rattle.bg_turns.specs.TurnOrder.{IsGreater}
use Rattle.bg_turns.specs.declared.faults.TurnFault.{TurnFault}
use Rattle.bg_turns.specs.declared.faults.TurnFault.TheVariants.{StepIllegal, MoreCanBePlayed, LargerMustBePlayed}
use Rattle.bg_turns.specs.declared.throws.Dice.{Dice}
use Rattle.bg_text.specs.Boards.BoardText.{line_text}
use Rattle.bg_table.specs.DiceLeft.{AreLeft}
use Rattle.bg_table.specs.StepRefusals.{IsRefusedAt, refusal_words}
use Rattle.bg_table.specs.StepTexts.{steps_text}
use Rattle.bg_table.specs.declared.dice_left.DiceLeft.{DiceLeft}
use Rattle.bg_table.specs.declared.step_refusals.StepRefusal.{StepRefusal}

-- the legal turns, each once, the greatest first
pub record AreLegalTurns (b : Position) (player : Player) (dice : Dice) (turns : List (List FromTo)) : Type 0 where
  pub exactly : (steps : List FromTo) → Contains turns steps ↔ IsLegalTurn b player dice steps
  pub greatest_first : AllPairs IsGreater turns

-- as in ": 24-18 13-11 can be played"
unfoldable pub example_words : List FromTo → List ℕ
example_words steps = codes ":" ++ steps_text steps ++ codes " can be played"

unfoldable pub of_four_words : ℕ → List ℕ
of_four_words count = decimal count ++ codes " of the 4 steps"

-- how many steps must be played: of equal dice there are four
abbrev pub count_words : Dice → ℕ → List ℕ
count_words dice count =
    if first_pips dice == second_pips dice then of_four_words count
    else if count == 2 then codes "both dice"
    else codes "a die"

-- as in "you must play both dice: 24-18 13-11 can be played"
unfoldable pub must_play_words : Dice → List FromTo → List ℕ
must_play_words dice steps = codes "you must play " ++ count_words dice (length steps) ++ example_words steps

-- as in "you must play the larger die, 6: 24-18 can be played"
unfoldable pub must_play_larger_words : ℕ → List FromTo → List ℕ
must_play_larger_words larger steps = codes "you must play the larger die, " ++ decimal larger ++ example_words steps

-- what must be played, the larger die or more steps, with the greatest of the legal turns
abbrev pub wanted_words : Bool → Dice → List (List FromTo) → List ℕ
wanted_words false dice [] = codes "you must play more"
wanted_words true dice [] = codes "you must play the larger die"
wanted_words false dice (greatest ∷ turns) = must_play_words dice greatest
wanted_words true dice (greatest ∷ turns) = must_play_larger_words (larger_die dice) greatest

-- the line refuses the step behind so many that can be played
abbrev pub IsStepLine : Position → Player → Dice → List FromTo → ℕ → List ℕ → Type 0
IsStepLine b player dice steps playable line =
    (left : DiceLeft) × (refusal : Option StepRefusal) × AreLeft dice steps playable left
    × IsRefusedAt b player dice left steps playable refusal
    × (line ≡ line_text (refusal_words b player dice refusal))

-- the line says what must be played
abbrev pub IsWantedLine : Bool → Position → Player → Dice → List ℕ → Type 0
IsWantedLine larger b player dice line =
    (turns : List (List FromTo)) × AreLegalTurns b player dice turns × (line ≡ line_text (wanted_words larger dice turns))

-- the line says why a turn with this fault is refused, with the greatest legal turn where another
-- one must be played
abbrev pub IsTurnRefusal : Position → Player → Dice → List FromTo → TurnFault → List ℕ → Type 0
IsTurnRefusal b player dice steps (StepIllegal playable) line = IsStepLine b player dice steps playable line
IsTurnRefusal b player dice steps MoreCanBePlayed line = IsWantedLine false b player dice line
IsTurnRefusal b player dice steps LargerMustBePlayed line = IsWantedLine true b player dice line
