-- Texts of bits.
use Rattle.std.proofs.Common.{◌≡◌, ℕ, List, refl}
use Rattle.std.specs.Prelude.{IsOk}
use Rattle.std.specs.Str.{IsUtf8}
use Rattle.std.specs.Result.{MatchResult}
use Rattle.std.specs.declared.result.Result.{Result}
use Rattle.std.specs.declared.result.Result.TheVariants.{Ok, Err}
use Rattle.std.proofs.lemmas.Str.{IsUtf8-from_ascii}
use Rattle.base64.specs.Engines.{standard_no_pad}
use Rattle.base64.specs.GeneralPurpose.{encode_of}
use Rattle.base64.proofs.EngineFacts.{IsAscii-encode_of}

-- what base64 writes is text
pub encoded_utf8 : (text bytes : List ℕ) → text ≡ encode_of standard_no_pad bytes → IsUtf8 text
encoded_utf8 text bytes e = rw e (IsUtf8-from_ascii (encode_of standard_no_pad bytes) (IsAscii-encode_of standard_no_pad bytes))

-- what is text is read
pub is_read : {T E : Type 0} (r : Result T E) (P : T → Type 0) (Q : E → Type 0) (U : Type 0)
    → MatchResult r P (λ e. (U → ⊥) × Q e) → U → IsOk r
is_read (Ok x) P Q U h u = refl
is_read (Err e) P Q U h u = absurd (h.0 u)
