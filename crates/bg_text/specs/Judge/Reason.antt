-- What is printed of a refused entry.
use Rattle.std.specs.Prelude.{ℕ, ◌+◌, List, ◌++◌, codes}
use Rattle.std.specs.Fmt.{decimal}
use Rattle.bg_turns.specs.declared.faults.TurnFault.{TurnFault}
use Rattle.bg_turns.specs.declared.faults.TurnFault.TheVariants.{StepIllegal, MoreCanBePlayed, LargerMustBePlayed}
use Rattle.bg_match.specs.declared.entries.EntryFault.{EntryFault}
use Rattle.bg_match.specs.declared.entries.EntryFault.TheVariants.{RecordFull, MatchOver, WrongPhase, EqualOpening}
use Rattle.bg_match.specs.declared.entries.EntryFault.TheVariants.{Turn, NoDouble, Memory}
use Rattle.bg_match.specs.declared.entries.NoDouble.{NoDouble as NoDoubleFault}
use Rattle.bg_match.specs.declared.entries.NoDouble.TheVariants.{Crawford, NotOwner, AtCap}
use Rattle.bg_text.specs.declared.faults.TextFault.{TextFault}
use Rattle.bg_text.specs.declared.faults.TextFault.TheVariants.{NotALine, BadNumber, TooManySteps}

-- the step is named by its place in the turn, from 1
abbrev pub turn_reason : TurnFault → List ℕ
turn_reason (StepIllegal played) = codes "step " ++ decimal (played + 1) ++ codes " illegal"
turn_reason MoreCanBePlayed = codes "more can be played"
turn_reason LargerMustBePlayed = codes "larger die must be played"

abbrev pub no_double_reason : NoDoubleFault → List ℕ
no_double_reason Crawford = codes "no double: crawford"
no_double_reason NotOwner = codes "no double: not owner"
no_double_reason AtCap = codes "no double: at cap"

abbrev pub reason : EntryFault → List ℕ
reason RecordFull = codes "record full"
reason MatchOver = codes "match over"
reason WrongPhase = codes "wrong phase"
reason EqualOpening = codes "equal opening"
reason (Turn why) = turn_reason why
reason (NoDouble why) = no_double_reason why
reason Memory = codes "out of memory"

abbrev pub text_reason : TextFault → List ℕ
text_reason NotALine = codes "not a line"
text_reason BadNumber = codes "bad number"
text_reason TooManySteps = codes "too many steps"
