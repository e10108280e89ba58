use Rattle.std.proofs.Common.{rules}
use Rattle.bg_turns.proofs.judging.play_turn.Goals as goal

pub returns-in_err-judge_steps-clause-ok : goal.returns-in_err-judge_steps-clause-ok
returns-in_err-judge_steps-clause-ok c = (
  λ ok. search (rules, ok, c.from_residual.ensures),
  λ legal. search (rules, c.judge_steps.ensures.ok.1 (rw c.steps-steps.ensures.value legal), c.in_err-judge_steps.was),
)
