use Rattle.std.proofs.Common.{arith}
use Rattle.bg_text.proofs.Judged.InputLines.{three_digits_at}
use Rattle.bg_text.proofs.judging.length_lines.read_digits.Goals as goal

pub returns-in-Err-48-to-57-clause-fault : goal.returns-in-Err-48-to-57-clause-fault
returns-in-Err-48-to-57-clause-fault c = three_digits_at c.args.digits.now (omega arith) (omega arith) (omega arith) (omega arith) (omega arith) (omega arith) (omega arith)
