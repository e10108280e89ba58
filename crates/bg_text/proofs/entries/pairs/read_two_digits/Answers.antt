use Rattle.std.proofs.Common.{arith}
use Rattle.bg_text.proofs.Spelling.Numbers.{number_of_one, number_of_zero, number_of_zero_first, number_of_two}
use Rattle.bg_text.proofs.entries.pairs.read_two_digits.Goals as goal

pub returns-in-48 : goal.returns-in-48
returns-in-48 c = number_of_zero _ (omega arith) (omega arith)

pub returns-in-48-2 : goal.returns-in-48-2
returns-in-48-2 c = number_of_zero_first _ (omega arith) (omega arith) (omega arith) (omega arith)

pub returns-in-49-to-57 : goal.returns-in-49-to-57
returns-in-49-to-57 c = number_of_one _ (omega arith) (omega arith) (omega arith)

pub returns-in-49-to-57-2 : goal.returns-in-49-to-57-2
returns-in-49-to-57-2 c = number_of_two _ (omega arith) (omega arith) (omega arith) (omega arith) (omega arith)
