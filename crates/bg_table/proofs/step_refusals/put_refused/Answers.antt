use Rattle.std.specs.Prelude.{codes}
use Rattle.bg_text.specs.Entries.EntryText.{step_text}
use Rattle.bg_table.specs.StepRefusals.{refused_words}
use Rattle.bg_table.proofs.Grown.{three_parts}
use Rattle.bg_table.proofs.step_refusals.put_refused.Goals as goal

pub returns : goal.returns
unfolding refused_words
returns c =
    three_parts (step_text c.args.refusal.step) (codes " can't be played: ") _ _ _ _ _
    c.in_ok-put_step.ensures c.in_ok-put_text.ensures c.in_ok-put_reason.ensures
