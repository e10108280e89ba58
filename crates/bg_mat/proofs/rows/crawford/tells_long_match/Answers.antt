use Rattle.std.proofs.Common.{arith}
use Rattle.std.specs.Prelude.{nat_lt}
use Rattle.std.proofs.lemmas.Bool.Decides.{nat_tests}
use Rattle.bg_mat.proofs.OfReading.HeadingLemmas.{long_or_not}
use Rattle.bg_mat.proofs.rows.crawford.tells_long_match.Goals as goal

pub returns-in-Some : goal.returns-in-Some
returns-in-Some c =
    long_or_not c.args.line.now c.in-Some.points (nat_lt 1 c.in-Some.points) c.in-Some.ensures
    (λ t. grind (arith, nat_tests, t)) (λ more. grind (arith, nat_tests, more))

pub returns-in-None : goal.returns-in-None
returns-in-None c = (λ t. absurd (cc (t)), λ h. let (n, is, long) = h in absurd (c.in-None.ensures n is))
