use Rattle.bg_match.proofs.Answering.{is_answer}
use Rattle.bg_match.proofs.Legal.{rolls_any_dice}
use Rattle.bg_match.proofs.laws.laws_of_answers.Goals as goal

pub returns-clause-answer : goal.returns-clause-answer
returns-clause-answer c = is_answer

pub returns-clause-any_dice : goal.returns-clause-any_dice
returns-clause-any_dice c = rolls_any_dice
