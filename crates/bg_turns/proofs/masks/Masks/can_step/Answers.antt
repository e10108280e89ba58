use Rattle.std.proofs.Common.{arith}
use Rattle.std.proofs.lemmas.Bool.Decides.{nat_tests}
use Rattle.bg_turns.proofs.Deepest.{can_by_places, none_by_places, some_place}
use Rattle.bg_turns.proofs.masks.Masks.can_step.Goals as goal

pub returns : goal.returns
returns c r is are b p s =
    let places = c.open.ensures r is are in (
      λ yes. can_by_places r b p s c.args.die c.requires.low c.open.result places (grind (arith, nat_tests)) (omega arith),
      λ can_step. some_place c.open.result (λ none. none_by_places r b p s c.args.die c.requires.low c.open.result places none can_step),
    )
