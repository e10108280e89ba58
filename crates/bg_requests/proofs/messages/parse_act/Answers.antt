use Rattle.std.proofs.Common.{◌≡◌, false, true, None, Some}
use Rattle.bg_requests.proofs.Acts.{split_act}
use Rattle.bg_requests.proofs.messages.parse_act.Goals as goal

pub returns-in_err-digits-clause-total : goal.returns-in_err-digits-clause-total
returns-in_err-digits-clause-total c (number, words, is) =
    absurd (split_act c.args.text.now number words None c.in_err-digits.ensures.cases is)

pub returns-in_err-number-clause-total : goal.returns-in_err-number-clause-total
returns-in_err-number-clause-total c (number, words, is) =
    let parts = split_act c.args.text.now number words (Some (c.in_ok-digits.digits, c.in_ok-digits.words)) c.in_ok-digits.ensures.cases is in
    let has : false ≡ true = c.in_err-number.ensures.total number is.1 parts.0 in
    absurd (cc)
