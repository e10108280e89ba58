use Rattle.std.proofs.Common.{◌≡◌, ◌∙◌, ap, sym, arith}
use Rattle.std.specs.Prelude.{not}
use Rattle.std.proofs.lemmas.Slice.Eq.{bytes_eq-Decides}
use Rattle.std.specs.Fmt.{decimal}
use Rattle.std.proofs.lemmas.Fmt.{parse-decimal}
use Rattle.bg_requests.proofs.numbers.number_of.Goals as goal

pub returns-in_default-clause-total : goal.returns-in_default-clause-total
returns-in_default-clause-total c number few is =
    let ok = parse-decimal 32 number c.args.digits.now c.parse.result few (omega arith) is c.parse.ensures.value.0 in
    absurd (c.in_default.not-Ok number ok)

pub returns-then-ne-clause-total : goal.returns-then-ne-clause-total
returns-then-ne-clause-total c number few is =
    let ok = parse-decimal 32 number c.args.digits.now c.parse.result few (omega arith) is c.parse.ensures.value.0 in
    let same : c.in-Ok.number ≡ number = cc in
    let told : c.format.result.now ≡ c.args.digits.now = c.format.ensures.text ∙ ap decimal same ∙ sym is in
    let equal = (bytes_eq-Decides c.format.result.now c.args.digits.now).1 told in
    sym (c.ne.ensures ∙ ap not equal) ∙ c.if-ne.true
