use Rattle.std.proofs.Common.{refl}
use Rattle.bg_match.proofs.Passing.{pass_can_follow, only_passed, not_allowed}
use Rattle.bg_match.proofs.standings.Standing.pass.Goals as goal

pub returns-in_default-clause-ok : goal.returns-in_default-clause-ok
returns-in_default-clause-ok c =
    (λ h. absurd cc, λ can. absurd (c.in_default.not-Passed (only_passed c.args.self.now c.args.entry.now (c.requires).2 can)))

pub returns-in_default-clause-fault : goal.returns-in_default-clause-fault
returns-in_default-clause-fault c =
    (λ p over. let moves = (c.requires).1 in cc, not_allowed c.args.self.now c.args.entry.now (c.requires).2 c.in_default.not-Passed)

pub returns-in-Passed-clause-ok : goal.returns-in-Passed-clause-ok
returns-in-Passed-clause-ok c =
    (λ h. rw c.in-Passed.is (pass_can_follow c.args.self.now c.args.player c.requires), λ can. refl)
