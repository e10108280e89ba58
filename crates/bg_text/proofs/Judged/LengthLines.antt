-- Line 1 says one length and the rules of one match.
use Rattle.std.proofs.Common.{◌≡◌, ℕ, ◌≤◌, List, [], ◌∷◌, ◌++◌, length, drop, refl, sym, ◌∙◌, ap, arith, length-append, append-nil}
use Rattle.std.specs.Prelude.{codes}
use Rattle.std.specs.Fmt.{decimal}
use Rattle.std.proofs.lemmas.Fmt.{decimal_injective}
use Rattle.std.proofs.lemmas.List.{append_cancel_right}
use Rattle.bg_match.specs.Limits.{IsMatchLength}
use Rattle.bg_match.specs.Terms.{Terms, terms_of, match_length, rules_of}
use Rattle.bg_match.specs.declared.limits.Rules.{Rules}
use Rattle.bg_match.specs.declared.limits.Rules.TheVariants.{One, Two}
use Rattle.bg_text.specs.Boards.TermsText.{rules_mark}
use Rattle.bg_text.specs.Boards.Transcript.{length_line}
use Rattle.bg_text.specs.Judge.Judging.{AreLengthDigits, IsLengthFault}
use Rattle.bg_text.specs.declared.faults.LineFault.{LineFault}
use Rattle.bg_text.specs.declared.faults.LineFault.TheVariants as fault
use Rattle.bg_text.proofs.Spelling.PairTexts.{numeral_decimal}

-- at most three digits are told from the mark of the rules behind them
same_parts : (a b : List ℕ) (r q : Rules) → length a ≤ 3 → length b ≤ 3 → a ++ rules_mark r ≡ b ++ rules_mark q → (a ≡ b) × (r ≡ q)
same_parts a b One One few also e = (sym (append-nil a) ∙ (e ∙ append-nil b), refl)
same_parts a b One Two few also e = absurd (omega (arith, ap length e, length-append a [], length-append b (codes " rules 2")))
same_parts a b Two One few also e = absurd (omega (arith, ap length e, length-append b [], length-append a (codes " rules 2")))
same_parts a b Two Two few also e = (append_cancel_right a b (codes " rules 2") e, refl)

-- what stands before the mark of the second rules
pub digits_before : (words front digits : List ℕ) (rules : Rules) → words ≡ front ++ codes " rules 2" → AreLengthDigits digits → words ≡ digits ++ rules_mark rules → digits ≡ front
digits_before words front digits One marked are e =
    absurd (omega (arith, are.three, ap length marked, ap length e, length-append digits [], length-append front (codes " rules 2")))
digits_before words front digits Two marked are e = append_cancel_right digits front (codes " rules 2") (sym e ∙ marked)

-- without that mark there is nothing behind the digits
pub digits_alone : (words digits : List ℕ) (rules : Rules) → ((front : List ℕ) → words ≡ front ++ codes " rules 2" → ⊥) → words ≡ digits ++ rules_mark rules → digits ≡ words
digits_alone words digits One unmarked e = sym (append-nil digits) ∙ sym e
digits_alone words digits Two unmarked e = absurd (unmarked digits e)

-- the digits of a length in its range
number_digits : (n : ℕ) → IsMatchLength n → AreLengthDigits (decimal n)
number_digits n range =
    let number = numeral_decimal n (omega (arith, range.1)) in
    record { decimal_digits = number.digits; some = number.some; three = omega (arith, number.two) }

-- a length line is not at fault
pub no_length_fault : (terms : Terms) (lines : List (List ℕ)) (why : LineFault) → IsMatchLength (match_length terms) → IsLengthFault why (length_line terms ∷ lines) → ⊥
no_length_fault terms lines fault.NotALengthLine range h = h (decimal (match_length terms)) (rules_of terms) refl (number_digits (match_length terms) range)
no_length_fault terms lines fault.LengthOutOfRange range h =
    let are = number_digits (match_length terms) range in
    let same = same_parts (decimal (match_length terms)) h.0 (rules_of terms) h.1 are.three h.3.0.three (ap (drop 7) h.2) in
    h.3.1 (match_length terms) range.0 range.1 (sym same.0)
no_length_fault terms lines (fault.Text why) range h = h
no_length_fault terms lines fault.WrongPlayer range h = h
no_length_fault terms lines (fault.Entry why) range h = h

-- one length line is that of one length and of one set of rules
pub one_length : (a b : Terms) → IsMatchLength (match_length a) → IsMatchLength (match_length b) → length_line a ≡ length_line b → a ≡ b
one_length a b h k e =
    let are = number_digits (match_length a) h in
    let also = number_digits (match_length b) k in
    let same = same_parts (decimal (match_length a)) (decimal (match_length b)) (rules_of a) (rules_of b) are.three also.three (ap (drop 7) e) in
    let lengths = decimal_injective (match_length a) (match_length b) (omega (arith, h.1)) (omega (arith, k.1)) same.0 in
    ap (λ n. terms_of n (rules_of a)) lengths ∙ ap (terms_of (match_length b)) same.1
