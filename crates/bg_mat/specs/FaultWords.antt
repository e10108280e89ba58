-- The words of faults.
use Rattle.std.specs.Prelude.{ℕ, List, ◌++◌, codes}
use Rattle.std.specs.Fmt.{decimal}
use Rattle.bg_match.specs.FaultWords.{entry_fault_words}
use Rattle.bg_mat.specs.declared.faults.MatFault.{MatFault}
use Rattle.bg_mat.specs.declared.faults.MatFault.TheVariants as mat
use Rattle.bg_mat.specs.declared.faults.ImportFault.{ImportFault}
use Rattle.bg_mat.specs.declared.faults.ImportFault.TheVariants as import_fault

-- why a line is refused
abbrev pub mat_fault_words : MatFault → List ℕ
mat_fault_words mat.NotALine = codes "not a line of a match file"
mat_fault_words mat.NoCrawford = codes "a match without a Crawford game"
mat_fault_words mat.NoLength = codes "no length of the match"
mat_fault_words mat.Money = codes "a money game"
mat_fault_words mat.LengthOutOfRange = codes "length out of range"
mat_fault_words mat.WrongGame = codes "not the next game"
mat_fault_words mat.WrongScores = codes "not the players and their scores"
mat_fault_words mat.GameGoesOn = codes "the game before is not over"
mat_fault_words mat.GameOver = codes "the game is over"
mat_fault_words mat.Beaver = codes "a beaver"
mat_fault_words mat.OutOfTurn = codes "out of turn"
mat_fault_words mat.ResignsOutOfTurn = codes "the loser resigns out of turn"
mat_fault_words mat.UnknownTurn = codes "a turn that is not known"
mat_fault_words mat.TooManySteps = codes "too many steps"
mat_fault_words mat.NoSuchTurn = codes "no legal turn has this movement"
mat_fault_words mat.WrongHits = codes "no legal turn has this movement with these hits"
mat_fault_words mat.WrongCube = codes "not twice the cube"
mat_fault_words mat.WrongPoints = codes "not the points of the game"
mat_fault_words mat.MatchGoesOn = codes "the match is not over"
mat_fault_words (mat.Entry why) = entry_fault_words why

-- why a file gives no record
abbrev pub import_fault_words : ImportFault → List ℕ
import_fault_words (import_fault.Refused line why) =
    codes "refused at line " ++ decimal line ++ codes ": " ++ mat_fault_words why
import_fault_words import_fault.TooLong = codes "refused: input too long"
import_fault_words import_fault.Memory = codes "out of memory"
