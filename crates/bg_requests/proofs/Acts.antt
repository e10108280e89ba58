-- The first blank of a number and words stands behind the number.
use Rattle.std.proofs.Common.{◌≡◌, ◌≢◌, ℕ, zero, suc, ◌<◌, List, [], ◌∷◌, length, get_or, Option, subst, arith, MatchOption}
use Rattle.std.specs.Char.{digit_value}
use Rattle.std.specs.Fmt.{decimal}
use Rattle.std.specs.Str.Parse.{AllDigits}
use Rattle.std.proofs.lemmas.Fmt.{decimal_is_IsNumeral}
use Rattle.std.proofs.lemmas.Str.Pattern.{IsSplitOnceResult, split_after}
use denote.Bor.{Bor}
use Rattle.bg_requests.specs.Messages.{IsActOf}

no_blank : (digits : List ℕ) → AllDigits 10 digits → (i : ℕ) → i < length digits → get_or digits i 0 ≢ 32
no_blank [] all i within is = absurd (omega (arith, within))
no_blank (x ∷ digits) all zero within is = absurd (omega (arith, subst (λ (byte : ℕ). digit_value byte < 10) is all.0))
no_blank (x ∷ digits) all (suc i) within is = no_blank digits all.1 i (omega (arith, within)) is

pub split_act : (text : List ℕ) (number : ℕ) (words : List ℕ) (split : Option (Bor (List ℕ) × Bor (List ℕ)))
    → IsSplitOnceResult 32 text split → IsActOf text number words
    → MatchOption split ⊥ (λ parts. (parts.0.now ≡ decimal number) × (parts.1.now ≡ words))
split_act text number words split at (is, few) =
    split_after 32 text (decimal number) words split at (omega arith) is (no_blank (decimal number) (decimal_is_IsNumeral number (omega (arith, few))).0.1)
