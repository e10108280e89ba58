use Rattle.bg_protocol.proofs.Outcomes.OneOutcome.{outcomes_fixed}
use Rattle.bg_protocol.proofs.Outcomes.OneWorld.{one_list, one_outcome}
use Rattle.bg_protocol.proofs.worlds.laws.outcomes_are_fixed.Goals as goal

pub returns-clause-unheard : goal.returns-clause-unheard
returns-clause-unheard g c = outcomes_fixed g.L.Link.is_honest g.K.Keeper.is_honest

pub returns-clause-all : goal.returns-clause-all
returns-clause-all g c = one_outcome g.L.Link.is_honest g.K.Keeper.is_honest

pub returns-clause-lists : goal.returns-clause-lists
returns-clause-lists g c = one_list g.L.Link.is_honest g.K.Keeper.is_honest
