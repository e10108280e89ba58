use Rattle.std.proofs.Common.{arith}
use Rattle.bg_text.proofs.Spelling.WrittenNumbers.{one_written, two_written}
use Rattle.bg_text.proofs.entries.writing.put_number.Goals as goal

pub returns-then-number-lt10-clause-bytes : goal.returns-then-number-lt10-clause-bytes
returns-then-number-lt10-clause-bytes c = one_written _ _ _ c.if-number-lt10.true c.put_digit.ensures.bytes

pub returns-then-number-lt100-clause-bytes : goal.returns-then-number-lt100-clause-bytes
returns-then-number-lt100-clause-bytes c =
    two_written _ _ _ _ (omega (arith, c.if-number-lt10.false)) c.if-number-lt100.true
    c.put_digit-then-number-lt100.ensures.bytes c.put_digit-then-number-lt100-2.ensures.bytes
