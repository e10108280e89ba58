-- Numbers that are written digit by digit.
use Rattle.std.specs.Prelude.{◌≡◌, ℕ, ◌+◌, ◌/◌, ◌%◌, ◌<◌, ◌≤◌, List, [], ◌∷◌, ◌++◌}
use Rattle.std.specs.Fmt.{decimal}
use Rattle.std.proofs.Common.{refl, sym, ◌∙◌, ap, arith, append_assoc}
use Rattle.std.proofs.lemmas.Fmt.{decimal_digit}
use Rattle.bg_text.proofs.Spelling.Numbers.{two_digits}

pub one_written : (old new : List ℕ) (n : ℕ) → n < 10 → new ≡ old ++ (48 + n) ∷ [] → new ≡ old ++ decimal n
one_written old new n few e = e ∙ ap (λ ds. old ++ ds) (sym (decimal_digit n few))

pub two_written : (old first new : List ℕ) (n : ℕ) → 10 ≤ n → n < 100 → first ≡ old ++ (48 + n / 10) ∷ [] → new ≡ first ++ (48 + n % 10) ∷ [] → new ≡ old ++ decimal n
two_written old first new n low high e h =
    h ∙ (ap (λ front. front ++ (48 + n % 10) ∷ []) e
    ∙ (append_assoc old ((48 + n / 10) ∷ []) ((48 + n % 10) ∷ [])
    ∙ ap (λ ds. old ++ ds) (sym (two_digits n low high))))

-- the numbers of two dice, with a space between them
pub pair_written : (old first space new : List ℕ) (a b x o : ℕ) → a ≡ x → b ≡ o → a ≤ 6 → b ≤ 6 → first ≡ old ++ (48 + a) ∷ [] → space ≡ first ++ 32 ∷ [] → new ≡ space ++ (48 + b) ∷ [] → new ≡ old ++ (decimal x ++ 32 ∷ decimal o)
pair_written old first space new a b x o same alike few less e h k =
    let one : x < 10 = omega arith in
    let other : o < 10 = omega arith in
    k ∙ (ap (λ front. front ++ (48 + b) ∷ []) h
    ∙ (append_assoc first (32 ∷ []) ((48 + b) ∷ [])
    ∙ (ap (λ front. front ++ 32 ∷ (48 + b) ∷ []) e
    ∙ (append_assoc old ((48 + a) ∷ []) (32 ∷ (48 + b) ∷ [])
    ∙ rw (same, alike, decimal_digit x one, decimal_digit o other) refl))))
