use Rattle.std.proofs.Common.{arith}
use Rattle.bg_text.proofs.Spelling.PairTexts.{no_such_point}
use Rattle.bg_text.proofs.entries.pairs.read_point.Goals as goal

pub returns-else-number-lt-BAR : goal.returns-else-number-lt-BAR
returns-else-number-lt-BAR c = no_such_point _ _ (omega arith) c.in_ok-number.ensures
