use Rattle.std.proofs.Common.{refl}
use Rattle.bg_match.proofs.Legal.{one_actor}
use Rattle.bg_referee.proofs.Opening.{not_appended}
use Rattle.bg_referee.proofs.Growing.{owned}
use Rattle.bg_referee.proofs.referee.Referee.open.Goals as goal

pub returns-in_default : goal.returns-in_default
returns-in_default c =
    rw (← c.self.view_is) (λ acts. c.in_default.not-Referee (one_actor _ _ _ _ c.actor.ensures acts), refl)

pub returns-in-Err : goal.returns-in-Err
returns-in-Err c =
    let own = rw (← c.self.view_is) at c.in_ok-entry.ensures.own in
    rw (← c.self.view_is) (
      rw c.of.ensures (not_appended c.self.inside.log c.args.word _ _ c.in-Err.ensures.fault own c.in-Referee.ensures),
      rw c.in-Err.ensures.err refl,
    )

pub returns : goal.returns
returns c =
    let own = rw (← c.self.view_is) at c.in_ok-entry.ensures.own in
    let pushed = c.in_default-push.ensures in
    rw (← c.self.view_is) (
    owned c.self.inside.log c.push.new.self _ _ _ c.args.word _ c.in_ok-entry.entry pushed.appended pushed.spare pushed.legal
    c.len.ensures.value own
    )
