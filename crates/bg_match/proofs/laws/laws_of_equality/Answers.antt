use Rattle.bg_match.proofs.Equal.{compares_entries, compares_actions}
use Rattle.bg_match.proofs.laws.laws_of_equality.Goals as goal

pub returns-clause-entries : goal.returns-clause-entries
returns-clause-entries c = compares_entries

pub returns-clause-actions : goal.returns-clause-actions
returns-clause-actions c = compares_actions
