-- Why a step can't be played.
use Rattle.std.specs.Prelude.{◌≡◌, ◌⊎◌, ℕ, zero, suc, Option, Some, None, List, [], ◌∷◌, ◌++◌, codes}
use Rattle.std.specs.Fmt.{decimal}
use Rattle.bg_board.specs.FromTo.{FromTo}
use Rattle.bg_board.specs.Die.{pips}
use Rattle.bg_board.specs.Position.{Position, opponent}
use Rattle.bg_board.specs.Step.{IsStep, IsStepFault, Lands, after_step}
use Rattle.bg_board.specs.declared.players.Player.{Player}
use Rattle.bg_board.specs.declared.steps.StepFault.{StepFault}
use Rattle.bg_board.specs.declared.steps.StepFault.TheVariants as fault
use Rattle.bg_turns.specs.Dice.{first_pips, second_pips}
use Rattle.bg_turns.specs.declared.throws.Dice.{Dice}
use Rattle.bg_text.specs.Entries.EntryText.{letter, step_text}
use Rattle.bg_table.specs.DiceLeft.{judging_pips}
use Rattle.bg_table.specs.MissingCheckers.{missing_words}
use Rattle.bg_table.specs.declared.dice_left.DiceLeft.{DiceLeft}
use Rattle.bg_table.specs.declared.dice_left.DiceLeft.TheVariants.{Both, One, Neither}
use Rattle.bg_table.specs.declared.step_refusals.StepRefusal.{StepRefusal}

-- a die that is left leads where the step ends
abbrev pub IsLeftFor : DiceLeft → Dice → FromTo → ℕ → Type 0
IsLeftFor Both dice step die = (die ≡ judging_pips step dice) × Lands step die
IsLeftFor (One one) dice step die = (die ≡ pips one) × Lands step die
IsLeftFor Neither dice step die = ⊥

-- no die is left for the step: one of the two leads where it ends, but none that is left does
abbrev pub HasNoDie : Dice → DiceLeft → FromTo → Type 0
HasNoDie dice left step = Lands step (judging_pips step dice) × ((die : ℕ) → IsLeftFor left dice step die → ⊥)

-- the step is judged by a die that is left for it, or by either one where neither leads where it
-- ends
abbrev pub IsJudge : Dice → DiceLeft → FromTo → ℕ → Type 0
IsJudge dice left step die =
    IsLeftFor left dice step die ⊎ ((Lands step (judging_pips step dice) → ⊥) × (die ≡ judging_pips step dice))

-- the fault of a step by a die, if it has one
abbrev pub IsFaultOf : Position → Player → FromTo → ℕ → Option StepFault → Type 0
IsFaultOf b player step die (Some why) = IsStepFault why b player step die
IsFaultOf b player step die None = IsStep b player step die

-- why the step can't be played: no die is left for it, or its fault by the die that judges it
abbrev pub IsReason : Position → Player → Dice → DiceLeft → FromTo → Option StepFault → Type 0
IsReason b player dice left step why =
    (HasNoDie dice left step × (why ≡ None))
    ⊎ ((die : ℕ) × IsJudge dice left step die × IsFaultOf b player step die why)

-- the step is the one behind so many that can be played, when these dice are left, and this is why
-- it can't be
abbrev pub IsRefusedAt : Position → Player → Dice → DiceLeft → List FromTo → ℕ → Option StepRefusal → Type 0
IsRefusedAt b player dice left [] playable refusal = refusal ≡ None
IsRefusedAt b player dice left (step ∷ rest) zero refusal =
    (why : Option StepFault) × IsReason b player dice left step why
    × (refusal ≡ Some (record { step = step; tried = b; fault = why }))
IsRefusedAt b player dice left (step ∷ rest) (suc playable) refusal =
    (IsStep b player step (judging_pips step dice)
    × IsRefusedAt (after_step b player step) player dice left rest playable refusal)
    ⊎ ((why : StepFault) × IsStepFault why b player step (judging_pips step dice)
    × (refusal ≡ Some (record { step = step; tried = b; fault = Some why })))

unfoldable pub dice_words : Dice → List ℕ
dice_words dice = codes "the dice are " ++ decimal (first_pips dice) ++ codes " and " ++ decimal (second_pips dice)

unfoldable pub held_words : Player → ℕ → List ℕ
held_words player point = codes "point " ++ decimal point ++ codes " is held by " ++ letter (opponent player)

-- the words for a reason, of a turn on this position
abbrev pub reason_words : Position → Player → Dice → StepRefusal → Option StepFault → List ℕ
reason_words b player dice refusal (Some fault.NoChecker) = missing_words b refusal.tried player refusal.step.from
reason_words b player dice refusal (Some fault.BarFirst) = codes "enter your checker from the bar first"
reason_words b player dice refusal (Some fault.WrongLanding) = dice_words dice
reason_words b player dice refusal (Some fault.Blocked) = held_words player refusal.step.to
reason_words b player dice refusal (Some fault.NotAllHome) = codes "not all your checkers are home"
reason_words b player dice refusal (Some fault.HigherChecker) = codes "a checker on a higher point must be moved first"
reason_words b player dice refusal None = codes "no die is left for it"

-- as in "24-18 can't be played: point 18 is held by O"
unfoldable pub refused_words : Position → Player → Dice → StepRefusal → List ℕ
refused_words b player dice refusal =
    step_text refusal.step ++ codes " can't be played: " ++ reason_words b player dice refusal refusal.fault

unfoldable pub refusal_words : Position → Player → Dice → Option StepRefusal → List ℕ
refusal_words b player dice None = codes "the turn has no such step"
refusal_words b player dice (Some refusal) = refused_words b player dice refusal
