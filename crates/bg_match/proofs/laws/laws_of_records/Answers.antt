use Rattle.bg_match.proofs.Legal.{legal_fronts, one_standing, entries_in_range, acts_itself, made_without_seat}
use Rattle.bg_match.proofs.laws.laws_of_records.Goals as goal

pub returns-clause-fronts : goal.returns-clause-fronts
returns-clause-fronts c = legal_fronts

pub returns-clause-standing : goal.returns-clause-standing
returns-clause-standing c = one_standing

pub returns-clause-in_range : goal.returns-clause-in_range
returns-clause-in_range c = entries_in_range

pub returns-clause-referee : goal.returns-clause-referee
returns-clause-referee c = acts_itself

pub returns-clause-seats : goal.returns-clause-seats
returns-clause-seats c = made_without_seat
