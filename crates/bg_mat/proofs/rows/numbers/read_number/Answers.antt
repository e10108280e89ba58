use Rattle.std.proofs.Common.{◌<◌, ◌≤◌, take, length, arith, sym, ◌∙◌}
use Rattle.std.proofs.lemmas.List.{length-take-le}
use Rattle.bg_mat.proofs.OfReading.Digits.{no_digit, bounded, digits_more, value_more}
use Rattle.bg_mat.proofs.rows.numbers.read_number.Goals as goal

pub returns-then-not-is_ascii_digit : goal.returns-then-not-is_ascii_digit
returns-then-not-is_ascii_digit c = λ n is.
    no_digit c.args.word.now c.loop-byte.byte-index c.loop-byte-test.true
    (sym c.is_ascii_digit.ensures.value ∙ c.if-not-is_ascii_digit.true) is.digits

pub overflow_mul-value : goal.overflow_mul-value
overflow_mul-value c =
    let i = c.loop-byte.byte-index in
    let few : length (take i c.args.word.now) ≤ i = omega (arith, length-take-le i c.args.word.now) in
    let small : c.loop-byte.value < 1000 =
    bounded c.args.word.now i c.loop-byte.value c.loop-byte-test.true c.loop-byte.invariant.four
    c.loop-byte.invariant.digits c.loop-byte.invariant.value few in
    omega (arith, small)

pub overflow_add-value : goal.overflow_add-value
overflow_add-value c =
    let i = c.loop-byte.byte-index in
    let few : length (take i c.args.word.now) ≤ i = omega (arith, length-take-le i c.args.word.now) in
    let small : c.loop-byte.value < 1000 =
    bounded c.args.word.now i c.loop-byte.value c.loop-byte-test.true c.loop-byte.invariant.four
    c.loop-byte.invariant.digits c.loop-byte.invariant.value few in
    let digit = c.if-not-is_ascii_digit.ensures.cases in
    omega (arith, small, c.from.ensures, digit.1)

pub loop-byte-preserved : goal.loop-byte-preserved
loop-byte-preserved c = record {
  value =
      value_more c.args.word.now c.loop-byte.byte-index c.loop-byte.value c.from.result c.loop-byte-test.true
      c.if-not-is_ascii_digit.ensures.cases c.from.ensures c.loop-byte.invariant.value;
  digits =
      digits_more c.args.word.now c.loop-byte.byte-index c.loop-byte-test.true c.loop-byte.invariant.digits
      (sym c.is_ascii_digit.ensures.value ∙ c.if-not-is_ascii_digit.false);
  some = c.loop-byte.invariant.some;
  four = c.loop-byte.invariant.four;
}
