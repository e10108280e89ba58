use Rattle.std.proofs.Common.{◌≡◌, Err, rules}
use Rattle.bg_text.proofs.Spelling.DiceTexts.{no_dice, dice_fault, wrong_dice}
use Rattle.bg_text.proofs.entries.pairs.read_dice.Goals as goal

pub returns-in_err-first : goal.returns-in_err-first
returns-in_err-first c =
    let same : c.from_residual.result ≡ Err c.in_err-first.field-0.0 = search rules in
    rw same (dice_fault _ _ _ _ _ _ c.in-Some-halves.ensures c.read_two_digits.ensures c.read_two_digits-2.ensures c.in_err-first.ensures)

pub returns-in_default-2 : goal.returns-in_default-2
returns-in_default-2 c =
    wrong_dice _ _ _ _ _ _ _
    c.in-Some-halves.ensures c.read_two_digits.ensures c.read_two_digits-2.ensures c.in_ok-first.ensures
    (λ h k. no_dice (c.in_default-2.ensures'.some.1 k))

pub returns-in_default-2-2 : goal.returns-in_default-2-2
returns-in_default-2-2 c =
    let none = rw c.in_default-2.is-0 at c.new.ensures.some in
    wrong_dice _ _ _ _ _ _ _
    c.in-Some-halves.ensures c.read_two_digits.ensures c.read_two_digits-2.ensures c.in_ok-first.ensures
    (λ h k. no_dice (none.1 h))
