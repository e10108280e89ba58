use Rattle.std.proofs.Common.{ap, ◌∙◌, ◌++◌}
use Rattle.std.specs.Prelude.{codes}
use Rattle.std.specs.Fmt.{decimal}
use Rattle.bg_text.specs.Entries.EntryText.{letter}
use Rattle.bg_table.specs.StepRefusals.{held_words}
use Rattle.bg_table.proofs.Grown.{four_parts}
use Rattle.bg_table.proofs.step_refusals.put_held.Goals as goal

pub returns : goal.returns
unfolding held_words
returns c =
    let holder = c.letter.ensures.word ∙ ap letter c.opponent.ensures in
    let put = c.in_ok-put_text-3.ensures ∙ ap (λ xs. c.put_text-2.new.out.items ++ xs) holder in
    four_parts (codes "point ") (decimal c.args.point) (codes " is held by ") _ _ _ _ _ _
    c.in_ok-put_text.ensures (rw c.into.ensures at c.in_ok-put_number.ensures) c.in_ok-put_text-2.ensures put
