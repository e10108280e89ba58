use Rattle.std.proofs.Common.{refl, ◌∙◌, ap, inr}
use Rattle.bg_match.proofs.Legal.{one_standing}
use Rattle.bg_match.specs.State.{State}
use Rattle.bg_referee.proofs.referee.Referee.own_entry.Goals as goal

pub returns-in_default : goal.returns-in_default
returns-in_default c =
    rw (← c.self.view_is) (record {
      own = inr (
        λ opens.
            let same = one_standing _ _ _ _ c.standing.ensures.stands opens.1 in
            c.in_default.not-Opening (c.phase.ensures ∙ ap (λ (s : State). s.phase) same ∙ opens.2),
        refl,
      );
      why = tt;
    })
