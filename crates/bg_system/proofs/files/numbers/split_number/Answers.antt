use Rattle.std.proofs.Common.{◌≡◌, ◌∙◌, ◌<◌, ◌^◌, ℕ, List, ◌∷◌, ◌++◌, Some, None, ap, arith}
use Rattle.std.proofs.lemmas.Str.Pattern.{split_after, split_parts}
use Rattle.bg_system.proofs.ReadNumbers.{left_over, no_mark, taken_off}
use Rattle.bg_system.proofs.files.numbers.split_number.Goals as goal
use Rattle.bg_system.proofs.files.numbers.split_number.Goals.{then-number-from-via-then-number-from, then-number-from-via-else-number-from+then-to-number}

pub returns-in_err-digits-clause-all : goal.returns-in_err-digits-clause-all
returns-in_err-digits-clause-all c = λ n rest range begins.
    let left = left_over c.args.word.now c.args.text.now c.in_ok-strip_prefix.field-0.now n c.args.mark rest c.in_ok-strip_prefix.ensures.cases begins in
    let small : n < 2 ^ 64 = omega (arith, range.1, c.ranges.to.fits) in
    absurd (split_after c.args.mark c.in_ok-strip_prefix.field-0.now _ rest None c.in_err-digits.ensures.cases (omega (arith, c.requires)) left (no_mark c.args.mark n c.requires small))

pub returns-in_err-number-clause-all : goal.returns-in_err-number-clause-all
returns-in_err-number-clause-all c = λ n rest range begins.
    let left = left_over c.args.word.now c.args.text.now c.in_ok-strip_prefix.field-0.now n c.args.mark rest c.in_ok-strip_prefix.ensures.cases begins in
    let small : n < 2 ^ 64 = omega (arith, range.1, c.ranges.to.fits) in
    let parts = split_after c.args.mark c.in_ok-strip_prefix.field-0.now _ rest (Some (c.in_ok-digits.digits, c.in_ok-digits.rest)) c.in_ok-digits.ensures.cases (omega (arith, c.requires)) left (no_mark c.args.mark n c.requires small) in
    let read = c.in_err-number.ensures.all n small parts.0 in
    absurd (cc read)

pub returns-clause-only : goal.returns-clause-only
returns-clause-only c =
    let parts = split_parts c.args.mark c.in_ok-strip_prefix.field-0.now (Some (c.in_ok-digits.digits, c.in_ok-digits.rest)) c.in_ok-digits.ensures.cases (omega (arith, c.requires)) in
    let left = parts.0 ∙ ap (λ (digits : List ℕ). digits ++ c.args.mark ∷ c.in_ok-digits.rest.now) c.in_ok-number.ensures.only in (
      (c.if-number-from.false, c.if-to-number.false),
      taken_off c.args.word.now c.args.text.now c.in_ok-strip_prefix.field-0.now c.in_ok-strip_prefix.ensures.cases
          ∙ ap (λ (left : List ℕ). c.args.word.now ++ left) left,
    )

pub returns-then-number-from-clause-all : goal.returns-then-number-from-clause-all
returns-then-number-from-clause-all c = λ n rest range begins.
    let left = left_over c.args.word.now c.args.text.now c.in_ok-strip_prefix.field-0.now n c.args.mark rest c.in_ok-strip_prefix.ensures.cases begins in
    let small : n < 2 ^ 64 = omega (arith, range.1, c.ranges.to.fits) in
    let parts = split_after c.args.mark c.in_ok-strip_prefix.field-0.now _ rest (Some (c.in_ok-digits.digits, c.in_ok-digits.rest)) c.in_ok-digits.ensures.cases (omega (arith, c.requires)) left (no_mark c.args.mark n c.requires small) in
    let read = c.in_ok-number.ensures.all n small parts.0 in
    let same : c.in_ok-number.number ≡ n = cc read in
    elim c.then-number-from.branch [
      | then-number-from-via-then-number-from w ↦ absurd (omega (arith, same, range.0, w.if-number-from.true))
      | then-number-from-via-else-number-from+then-to-number w ↦ absurd (omega (arith, same, range.1, w.if-to-number.true))
    ]

pub returns-clause-all : goal.returns-clause-all
returns-clause-all c = λ n rest range begins.
    let left = left_over c.args.word.now c.args.text.now c.in_ok-strip_prefix.field-0.now n c.args.mark rest c.in_ok-strip_prefix.ensures.cases begins in
    let small : n < 2 ^ 64 = omega (arith, range.1, c.ranges.to.fits) in
    let parts = split_after c.args.mark c.in_ok-strip_prefix.field-0.now _ rest (Some (c.in_ok-digits.digits, c.in_ok-digits.rest)) c.in_ok-digits.ensures.cases (omega (arith, c.requires)) left (no_mark c.args.mark n c.requires small) in
    let read = c.in_ok-number.ensures.all n small parts.0 in
    (cc read, parts.1)
