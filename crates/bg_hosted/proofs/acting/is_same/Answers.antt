use Rattle.std.proofs.Common.{◌≡◌, ◌∙◌, sym}
use Rattle.bg_match.proofs.Equal.{compares_actions}
use Rattle.bg_match.specs.contracts.actions.ActionPartialEq.TheImpl.{ghosts as actions}
use Rattle.bg_hosted.proofs.acting.is_same.Goals as goal

pub returns : goal.returns
returns c =
    let same = compares_actions c.args.one.now c.args.other.now in
    let is : c.eq.result ≡ actions.eq c.args.one.now c.args.other.now = c.eq.ensures in
    (λ h. same.0 (sym is ∙ h), λ e. is ∙ same.1 e)
