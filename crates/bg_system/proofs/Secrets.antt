-- A secret is the whole of what there is to read.
use Rattle.std.proofs.Common.{◌≡◌, ◌∙◌, ℕ, List, length, take, Option, Some, None, Result, Ok, Err, IfOk, IfSome, ap, sym, arith}
use Rattle.std.proofs.lemmas.List.{length-take, take_all}
use Rattle.std.specs.Prelude.{MatchResult, option_map}

whole : (bytes : List ℕ) → length (take 33 bytes) ≡ 32 → take 33 bytes ≡ bytes
whole bytes is = take_all 33 bytes (omega (arith, length-take 33 bytes, is))

-- the first 33 bytes of those that are known were read, and are a secret
pub secret_is : {E : Type 0} (known : Option (List ℕ)) (read : List ℕ) (result : Result (List ℕ) E) (P : E → Type 0)
    → IfSome (option_map (take 33) known) (λ bytes. read ≡ bytes)
    → MatchResult result (λ secret. (secret ≡ read) × (length read ≡ 32)) P
    → IfOk result (λ secret. IfSome known (λ bytes. secret ≡ bytes))
secret_is None read (Ok secret) P first is = tt
secret_is (Some bytes) read (Ok secret) P first is = is.0 ∙ first ∙ whole bytes (sym (ap length first) ∙ is.1)
secret_is known read (Err error) P first is = tt
