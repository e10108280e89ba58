use Rattle.std.proofs.Common.{sym, ◌∙◌}
use Rattle.bg_hosted.specs.HostedMatches.{world_of}
use Rattle.bg_hosted.proofs.Claimed.{acts_again, at_number}
use Rattle.bg_hosted.proofs.hosted_matches.HostedMatch.act_next.Goals as goal

pub returns-in-Some : goal.returns-in-Some
returns-in-Some g c =
    let claimed = sym c.in-Some.is ∙ c.claim.ensures in
    let old = world_of g.K.Keeper c.args.self.now in
    let new = world_of g.K.Keeper c.act_again.new.self in (
      λ other is. acts_again _ old (c.in-Some.claimed, c.in-Some.open) (c.args.number, other) c.args.number c.args.action _ c.act_again.result new c.is_same.ensures (claimed ∙ is) c.act_again.ensures,
      λ none. absurd (none c.in-Some.open (sym claimed ∙ at_number c.in-Some.claimed c.args.number c.in-Some.open c.if-claimed-number.true)),
    )
