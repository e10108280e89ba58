-- Reasons by the dice that are left.
use Rattle.std.proofs.Common.{◌≡◌, ℕ, Option, refl, subst, sym, inl, inr}
use Rattle.bg_board.specs.Die.{pips}
use Rattle.bg_board.specs.FromTo.{FromTo}
use Rattle.bg_board.specs.Position.{Position}
use Rattle.bg_board.specs.Step.{Lands}
use Rattle.bg_board.specs.declared.dice.Die.{Die}
use Rattle.bg_board.specs.declared.players.Player.{Player}
use Rattle.bg_board.specs.declared.steps.StepFault.{StepFault}
use Rattle.bg_turns.specs.declared.throws.Dice.{Dice}
use Rattle.bg_table.specs.DiceLeft.{judging_pips}
use Rattle.bg_table.specs.StepRefusals.{IsFaultOf, IsReason}
use Rattle.bg_table.specs.declared.dice_left.DiceLeft.{DiceLeft}
use Rattle.bg_table.specs.declared.dice_left.DiceLeft.TheVariants.{Both, One}

-- neither die leads where the step ends
pub by_neither : (b : Position) (player : Player) (dice : Dice) (left : DiceLeft) (step : FromTo) (die : ℕ) (why : Option StepFault)
    → die ≡ judging_pips step dice → (Lands step die → ⊥) → IsFaultOf b player step die why → IsReason b player dice left step why
by_neither b player dice left step die why is not fault =
    inr (die, inr (subst (λ (n : ℕ). Lands step n → ⊥) is not, is), fault)

-- both dice are left
pub by_both : (b : Position) (player : Player) (dice : Dice) (left : DiceLeft) (step : FromTo) (die : ℕ) (why : Option StepFault)
    → left ≡ Both → die ≡ judging_pips step dice → Lands step (judging_pips step dice) → IsFaultOf b player step die why
    → IsReason b player dice left step why
by_both b player dice left step die why both is lands fault =
    rw both (inr (die, inl (is, subst (λ (n : ℕ). Lands step n) (sym is) lands), fault))

-- one die is left, which leads there
pub by_one : (b : Position) (player : Player) (dice : Dice) (left : DiceLeft) (step : FromTo) (one : Die) (why : Option StepFault)
    → left ≡ One one → Lands step (pips one) → IsFaultOf b player step (pips one) why → IsReason b player dice left step why
by_one b player dice left step one why is lands fault = rw is (inr (pips one, inl (refl, lands), fault))
