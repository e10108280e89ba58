use Rattle.std.proofs.Common.{◌≡◌, rules}
use Rattle.bg_match.proofs.Legal.{one_actor}
use Rattle.bg_c.proofs.parties.claims.try_action.Goals as goal

pub returns-in_default : goal.returns-in_default
returns-in_default c = λ also. c.in_default.not-Seat _ (one_actor _ _ _ _ c.actor.ensures also)

pub returns-then-ne : goal.returns-then-ne
returns-then-ne c =
    let differ : c.in-Seat.acting ≡ c.args.player → ⊥ = search rules in
    λ also. let same = one_actor _ _ _ _ c.actor.ensures also in let is = c.in-Seat.is in differ cc
