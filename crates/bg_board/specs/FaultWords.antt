-- The words of faults.
use Rattle.std.specs.Prelude.{ℕ, List, codes}
use Rattle.bg_board.specs.declared.steps.StepFault.{StepFault}
use Rattle.bg_board.specs.declared.steps.StepFault.TheVariants as step_fault
use Rattle.bg_board.specs.declared.boards.BoardFault.{BoardFault}
use Rattle.bg_board.specs.declared.boards.BoardFault.TheVariants as board_fault

abbrev pub step_fault_words : StepFault → List ℕ
step_fault_words step_fault.NoChecker = codes "no checker where the step begins"
step_fault_words step_fault.BarFirst = codes "a checker on the bar must enter first"
step_fault_words step_fault.WrongLanding = codes "the die does not lead there"
step_fault_words step_fault.Blocked = codes "the landing point is blocked"
step_fault_words step_fault.NotAllHome = codes "a checker stands outside the home board"
step_fault_words step_fault.HigherChecker = codes "a checker stands on a higher point"

abbrev pub board_fault_words : BoardFault → List ℕ
board_fault_words board_fault.NotFifteen = codes "a player does not have fifteen checkers"
board_fault_words board_fault.SharedPoint = codes "both players have checkers on one point"
