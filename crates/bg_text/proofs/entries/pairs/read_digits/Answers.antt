use Rattle.std.proofs.Common.{◌≡◌, ◌+◌, ◌∷◌, [], arith}
use Rattle.bg_board.specs.Die.{pips}
use Rattle.bg_text.proofs.Spelling.DiceTexts.{digits_of_dice}
use Rattle.bg_text.proofs.Spelling.PairTexts.{three_bytes}
use Rattle.bg_text.proofs.entries.pairs.read_digits.Goals as goal

pub returns-in_ok-die_of-in-32-2 : goal.returns-in_ok-die_of-in-32-2
returns-in_ok-die_of-in-32-2 c =
    let x = c.in_ok-die_of-in-32.field-0 in
    let o = c.in_ok-die_of-in-32-2.field-0 in
    let text : c.args.numbers.now ≡ (48 + pips x) ∷ 32 ∷ (48 + pips o) ∷ [] =
    three_bytes _ _ _ _ (omega arith) c.in_ok-die_of-in-32.ensures (omega arith) c.in_ok-die_of-in-32-2.ensures in
    rw text (digits_of_dice x o)
