use Rattle.std.proofs.Common.{◌≡◌, ◌∙◌, true, Some, ap, sym}
use Rattle.std.specs.Fmt.{decimal}
use Rattle.std.proofs.lemmas.Fmt.{parse-decimal}
use Rattle.bg_system.proofs.files.numbers.read_number.Goals as goal

pub returns-in_err-number-clause-all : goal.returns-in_err-number-clause-all
returns-in_err-number-clause-all c = λ n small is.
    let parsed = parse-decimal 64 n c.args.digits.now c.parse.result small small is c.parse.ensures.value.0 in
    let found = rw parsed at c.ok.ensures.value in
    absurd (cc (found, c.in_err-number.was))

pub returns-clause-all : goal.returns-clause-all
returns-clause-all c = λ n small is.
    let parsed = parse-decimal 64 n c.args.digits.now c.parse.result small small is c.parse.ensures.value.0 in
    let found = rw parsed at c.ok.ensures.value in
    let same : c.in_ok-number.number ≡ n = cc (found, c.in_ok-number.was) in
    let written : c.is_written.result ≡ true = c.is_written.ensures.1 (is ∙ ap decimal (sym same)) in
    rw written at c.then_some.ensures ∙ ap Some same
