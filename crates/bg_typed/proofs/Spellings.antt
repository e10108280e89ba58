-- What is typed in small letters, spelled part by part.
use Rattle.std.specs.Prelude.{◌≡◌, ◌==◌, ◌&&◌, ◌||◌, ℕ, ◌+◌, ◌<◌, ◌≤◌, ◌^◌, ◌%◌, Bool, true, false, List, [], ◌∷◌, ◌++◌, map, codes, nat_le, if◌then◌else◌}
use Rattle.std.proofs.Common.{append_assoc, refl, sym, ◌∙◌, ap, arith}
use Rattle.std.specs.Fmt.{decimal}
use Rattle.std.specs.List.{AllByRecursion}
use Rattle.std.proofs.lemmas.Bool.{ne_eqb}
use Rattle.std.proofs.lemmas.Bool.Decides.{nat_tests}
use Rattle.std.proofs.lemmas.Fmt.{decimal_by_steps}
use Rattle.bg_typed.specs.Spelling.{ends_point, spelled_byte, separates, stands_for, written_out}

abbrev pub IsDigit : ℕ → Type 0
IsDigit byte = (48 ≤ byte) × (byte ≤ 57)

abbrev pub AreDigits : List ℕ → Type 0
AreDigits text = AllByRecursion IsDigit text

digits_both : (a b : List ℕ) → AreDigits a → AreDigits b → AreDigits (a ++ b)
digits_both [] b h k = k
digits_both (x ∷ a) b h k = (h.0, digits_both a b h.1 k)

-- a number is written in digits
pub decimal_digits : (n : ℕ) → n < 2 ^ 64 → AreDigits (decimal n)
decimal_digits n small =
    decimal_by_steps (λ m ds. AreDigits ds) (λ m few. ((omega arith, omega arith), tt))
    (λ m ds ten h. digits_both ds ((48 + m % 10) ∷ []) h ((omega arith, omega arith), tt)) n small

digit_plain : (x : ℕ) → IsDigit x → spelled_byte x ≡ x
digit_plain x h =
    let low = h.0 in
    let high = h.1 in
    let other : nat_le 65 x ≡ false = grind (arith, nat_tests, low, high) in
    let hyphen : (x == 45) ≡ false = ne_eqb x 45 (λ e. omega (arith, e, low)) in
    let comma : (x == 44) ≡ false = ne_eqb x 44 (λ e. omega (arith, e, low)) in
    rw (other, hyphen, comma) refl

pub digits_plain : (text : List ℕ) → AreDigits text → map spelled_byte text ≡ text
digits_plain [] h = refl
digits_plain (x ∷ text) h = let first = digit_plain x h.0 in let more = digits_plain text h.1 in rw (first, more) refl

written_if : (a b c : Bool) (x : ℕ) → b ≡ false → c ≡ false
    → (if a && b then codes "bar" else (if a && c then codes "off" else x ∷ [])) ≡ x ∷ []
written_if true b c x h k = rw (h, k) refl
written_if false b c x h k = refl

digit_written : (alone : Bool) (x : ℕ) → IsDigit x → stands_for alone x ≡ x ∷ []
digit_written alone x h =
    let high = h.1 in
    written_if alone (x == 98) (x == 111) x (ne_eqb x 98 (λ e. omega (arith, e, high))) (ne_eqb x 111 (λ e. omega (arith, e, high)))

-- digits stay
pub digits_written : (begins : Bool) (text : List ℕ) → AreDigits text → written_out begins text ≡ text
digits_written begins [] h = refl
digits_written begins (x ∷ text) h =
    let first = digit_written (begins && ends_point text) x h.0 in
    let more = digits_written (separates x) text h.1 in
    rw (first, more) refl

plain_written : (alone : Bool) (s : ℕ) → (s == 98) ≡ false → (s == 111) ≡ false → stands_for alone s ≡ s ∷ []
plain_written alone s h k = written_if alone (s == 98) (s == 111) s h k

-- a text is spelled part by part, where a blank or a slash stands between
parts_written : (begins : Bool) (front : List ℕ) (s : ℕ) (rest : List ℕ) → separates s ≡ true → (s == 98) ≡ false → (s == 111) ≡ false
    → written_out begins (front ++ s ∷ rest) ≡ written_out begins front ++ s ∷ written_out true rest
parts_written begins [] s rest sep h k =
    let first = plain_written (begins && ends_point rest) s h k in rw (first, sep) refl
parts_written begins (x ∷ []) s rest sep h k =
    let more = parts_written (separates x) [] s rest sep h k in
    let ends : ends_point (s ∷ rest) ≡ true = ap (λ (e : Bool). e || (s == 42 || s == 40)) sep in
    ap (λ (e : Bool). stands_for (begins && e) x ++ written_out (separates x) (s ∷ rest)) ends
    ∙ (ap (λ (t : List ℕ). stands_for (begins && true) x ++ t) more
    ∙ sym (append_assoc (stands_for (begins && true) x) [] (s ∷ written_out true rest)))
parts_written begins (x ∷ y ∷ front) s rest sep h k =
    let more = parts_written (separates x) (y ∷ front) s rest sep h k in
    ap (λ (t : List ℕ). stands_for (begins && ends_point (y ∷ front)) x ++ t) more
    ∙ sym (append_assoc (stands_for (begins && ends_point (y ∷ front)) x) (written_out (separates x) (y ∷ front)) (s ∷ written_out true rest))

pub slash_written : (front rest : List ℕ)
    → written_out true (front ++ 47 ∷ rest) ≡ written_out true front ++ 47 ∷ written_out true rest
slash_written front rest = parts_written true front 47 rest refl refl refl

pub blank_written : (front rest : List ℕ)
    → written_out true (front ++ 32 ∷ rest) ≡ written_out true front ++ 32 ∷ written_out true rest
blank_written front rest = parts_written true front 32 rest refl refl refl
