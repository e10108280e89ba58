use Rattle.std.proofs.Common.{subst, List, ℕ}
use Rattle.bg_mat.specs.Rows.Headings.{HasScore}
use Rattle.bg_mat.proofs.rows.headings.has_scores.Goals as goal

pub returns-in-Some : goal.returns-in-Some
returns-in-Some c = (
  λ is. record { front = c.in-Some.front.now; ends = c.in-Some.ensures.0; begins = c.has_score.ensures.0 is },
  λ h. c.has_score.ensures.1
      (subst (λ (t : List ℕ). HasScore t c.args.x) (c.in-Some.ensures.1 h.front h.ends) h.begins),
)

pub returns-in-None : goal.returns-in-None
returns-in-None c = (λ t. absurd (cc (t)), λ h. absurd (c.in-None.ensures h.front h.ends))
