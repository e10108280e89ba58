use Rattle.std.proofs.Common.{subst, sym, arith}
use Rattle.bg_match.specs.Match.{StandsAt}
use Rattle.bg_c.proofs.Shown.{as_many, follows_here, leads_on}
use Rattle.bg_c.proofs.parties.shown.standing_after.Goals as goal

pub next_standing-standing-requires : goal.next_standing-standing-requires
next_standing-standing-requires c =
    follows_here c.args.log.now c.loop-played.played c.loop-played.standing c.unwrap-entry.result.now c.len.ensures.legal
    c.loop-played.invariant (sym (rw c.unwrap-entry.ensures at c.entry.ensures))

pub loop-played-preserved : goal.loop-played-preserved
loop-played-preserved c =
    leads_on c.args.log.now c.loop-played.played c.loop-played.standing c.unwrap-entry.result.now _ c.len.ensures.legal
    c.loop-played.invariant (sym (rw c.unwrap-entry.ensures at c.entry.ensures)) c.next_standing-standing.ensures

pub returns : goal.returns
returns c =
    subst (λ xs. StandsAt c.args.log.now.terms xs c.loop-played.standing)
    (as_many c.args.log.now.entries c.args.count c.loop-played.played (omega (arith, c.len.ensures.value)))
    c.loop-played.invariant
