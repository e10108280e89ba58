use Rattle.std.proofs.Common.{◌≡◌, true, arith}
use Rattle.bg_world.proofs.Lines.Digits.{number_is_value}
use Rattle.bg_world.proofs.texts.numbers.read_up_to.Goals as goal

pub returns-then-value-most : goal.returns-then-value-most
returns-then-value-most c = (
  c.in-Some.ensures.0,
  λ n low e.
      let k =
      number_is_value c.args.most c.in-Some.value c.args.word.now c.ranges.most.fits c.in-Some.ensures.1 n low e in
      absurd (omega (arith, k.0, c.if-value-most.true)),
)

pub returns : goal.returns
returns c = (
  c.in-Some.ensures.0,
  λ n low e.
      let k =
      number_is_value c.args.most c.in-Some.value c.args.word.now c.ranges.most.fits c.in-Some.ensures.1 n low e in
      let t : c.is_written.result ≡ true = c.is_written.ensures.1 k.1 in
      absurd (cc (t, c.if-is_written.false)),
)
