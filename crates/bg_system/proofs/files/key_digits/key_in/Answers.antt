use Rattle.std.proofs.Common.{◌≡◌, ◌∙◌, ℕ, List, [], ◌∷◌, true, Some, Ok, ap, sym, subst, arith}
use Rattle.std.proofs.lemmas.List.{append_cancel_right}
use Rattle.std.proofs.lemmas.Str.Pattern.{strip_suffix_char}
use Rattle.hex.specs.Hex.{decode_sized, encode_lower}
use Rattle.hex.proofs.HexLemmas.{decode_sized-encode_lower}
use Rattle.bg_system.proofs.KeyDigits.{only}
use Rattle.bg_system.proofs.files.key_digits.key_in.Goals as goal

pub returns-in_err-key-clause-all : goal.returns-in_err-key-clause-all
returns-in_err-key-clause-all c = λ key long whole is.
    let digits = c.in_ok-digits.digits in
    let ends = strip_suffix_char 10 c.args.text.now (Some digits) c.in_ok-digits.ensures.cases (omega arith) in
    let same : digits.now ≡ encode_lower key = append_cancel_right digits.now (encode_lower key) (10 ∷ []) (sym ends ∙ is) in
    let decoded : decode_sized digits.now 32 ≡ Ok key =
    subst (λ (d : List ℕ). decode_sized d 32 ≡ Ok key) (sym same) (decode_sized-encode_lower key 32 long whole) in
    let found = rw (c.from_hex.ensures ∙ decoded) at c.ok.ensures.value in
    absurd (cc (found, c.in_err-key.was))

pub returns-clause-only : goal.returns-clause-only
returns-clause-only c =
    let digits = c.in_ok-digits.digits in
    let ends = strip_suffix_char 10 c.args.text.now (Some digits) c.in_ok-digits.ensures.cases (omega arith) in
    rw c.then_some.ensures (only c.args.text.now digits.now c.in_ok-key.key c.are_digits_of.result ends c.are_digits_of.ensures.0)

pub returns-clause-all : goal.returns-clause-all
returns-clause-all c = λ key long whole is.
    let digits = c.in_ok-digits.digits in
    let ends = strip_suffix_char 10 c.args.text.now (Some digits) c.in_ok-digits.ensures.cases (omega arith) in
    let same : digits.now ≡ encode_lower key = append_cancel_right digits.now (encode_lower key) (10 ∷ []) (sym ends ∙ is) in
    let decoded : decode_sized digits.now 32 ≡ Ok key =
    subst (λ (d : List ℕ). decode_sized d 32 ≡ Ok key) (sym same) (decode_sized-encode_lower key 32 long whole) in
    let found = rw (c.from_hex.ensures ∙ decoded) at c.ok.ensures.value in
    let read : c.in_ok-key.key ≡ key = cc (found, c.in_ok-key.was) in
    let written : c.are_digits_of.result ≡ true = c.are_digits_of.ensures.1 (same ∙ ap encode_lower (sym read)) in
    rw written at c.then_some.ensures ∙ ap Some read
