use Rattle.std.proofs.Common.{◌≡◌, ◌++◌, take}
use Rattle.bg_table.specs.StepTexts.{steps_text}
use Rattle.bg_table.proofs.step_texts.put_steps.Given as goal

abbrev pub invariant-loop-step : goal.invariant-loop-step
invariant-loop-step l = l.out.items ≡ l.initial.out.items ++ steps_text (take l.step-index l.steps)
