-- Texts cut in two, at a byte or by their lengths.
use Rattle.std.proofs.Common.{◌≡◌, ◌≢◌, ℕ, ◌+◌, ◌≤◌, ◌<◌, ◌^◌, ◌%◌, List, [], ◌∷◌, ◌++◌, length, drop, get_or, refl, sym, ◌∙◌, ap, arith}
use Rattle.std.specs.Fmt.{decimal}
use Rattle.std.specs.List.{All}
use Rattle.std.proofs.lemmas.Fmt.{decimal_by_steps, decimal_injective}
use Rattle.std.proofs.lemmas.List.Elements.{All-append, All-cons, All-head, All-nil, All-tail, All-weaker}

pub two_ends : (x y : ℕ) (a b : List ℕ) → x ≡ y → a ≡ b → x ∷ a ≡ y ∷ b
two_ends x y a b h k = ap (λ l. x ∷ l) k ∙ ap (λ z. z ∷ b) h

-- at the first byte that both parts lack
pub cut_at : (c : ℕ) (a b u v : List ℕ) → All (λ x. x ≢ c) a → All (λ x. x ≢ c) b → a ++ c ∷ u ≡ b ++ c ∷ v
    → (a ≡ b) × (u ≡ v)
cut_at c [] [] u v h k e = (refl, ap (drop 1) e)
cut_at c [] (y ∷ b) u v h k e = absurd (All-head (λ x. x ≢ c) y b k (sym (ap (λ l. get_or l 0 0) e)))
cut_at c (x ∷ a) [] u v h k e = absurd (All-head (λ x. x ≢ c) x a h (ap (λ l. get_or l 0 0) e))
cut_at c (x ∷ a) (y ∷ b) u v h k e =
    let rest = cut_at c a b u v (All-tail (λ x. x ≢ c) x a h) (All-tail (λ x. x ≢ c) y b k) (ap (drop 1) e) in
    (two_ends x y a b (ap (λ l. get_or l 0 0) e) rest.0, rest.1)

-- where both parts are equally long
pub cut_length : (a b u v : List ℕ) → length a ≡ length b → a ++ u ≡ b ++ v → (a ≡ b) × (u ≡ v)
cut_length [] [] u v h e = (refl, e)
cut_length [] (y ∷ b) u v h e = absurd (omega (arith, h))
cut_length (x ∷ a) [] u v h e = absurd (omega (arith, h))
cut_length (x ∷ a) (y ∷ b) u v h e =
    let rest = cut_length a b u v (omega (arith, h)) (ap (drop 1) e) in
    (two_ends x y a b (ap (λ l. get_or l 0 0) e) rest.0, rest.1)

-- a number is written in digits
pub digits_alone : (n : ℕ) → n < 2 ^ 64 → All (λ b. (48 ≤ b) × (b ≤ 57)) (decimal n)
digits_alone n fits = decimal_by_steps (λ n ds. All (λ b. (48 ≤ b) × (b ≤ 57)) ds) one more n fits
  where
    digit : (d : ℕ) → d < 10 → All (λ b. (48 ≤ b) × (b ≤ 57)) ((48 + d) ∷ [])
    digit d few = All-cons (λ b. (48 ≤ b) × (b ≤ 57)) (48 + d) [] (omega arith, omega arith) (All-nil (λ b. (48 ≤ b) × (b ≤ 57)))

    one : (n : ℕ) → n < 10 → All (λ b. (48 ≤ b) × (b ≤ 57)) ((48 + n) ∷ [])
    one n few = digit n few

    more : (n : ℕ) (ds : List ℕ) → 10 ≤ n → All (λ b. (48 ≤ b) × (b ≤ 57)) ds → All (λ b. (48 ≤ b) × (b ≤ 57)) (ds ++ ((48 + n % 10) ∷ []))
    more n ds many h = All-append (λ b. (48 ≤ b) × (b ≤ 57)) ds ((48 + n % 10) ∷ []) h (digit (n % 10) (omega arith))

-- behind a number, at a byte that is no digit
pub cut_number : (c m n : ℕ) (u v : List ℕ) → ((b : ℕ) → 48 ≤ b → b ≤ 57 → b ≡ c → ⊥) → m < 2 ^ 64 → n < 2 ^ 64
    → decimal m ++ c ∷ u ≡ decimal n ++ c ∷ v → (m ≡ n) × (u ≡ v)
cut_number c m n u v other h k e =
    let lacks : (n : ℕ) → n < 2 ^ 64 → All (λ b. b ≢ c) (decimal n) =
    λ n fits. All-weaker (λ b. (48 ≤ b) × (b ≤ 57)) (λ b. b ≢ c) (λ b d same. other b d.0 d.1 same) (decimal n) (digits_alone n fits) in
    let cut = cut_at c (decimal m) (decimal n) u v (lacks m h) (lacks n k) e in
    (decimal_injective m n h k cut.0, cut.1)

pub cut_decimal : (c m n : ℕ) (u v : List ℕ) → c < 48 → m < 2 ^ 64 → n < 2 ^ 64
    → decimal m ++ c ∷ u ≡ decimal n ++ c ∷ v → (m ≡ n) × (u ≡ v)
cut_decimal c m n u v low h k e = cut_number c m n u v (λ b digit high same. omega (arith, digit, same, low)) h k e
