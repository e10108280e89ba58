-- What is told of the secret of dice.
use Rattle.std.specs.Prelude.{ℕ, List, [], ◌++◌, codes, Option, Some, None}
use Rattle.hex.specs.Hex.{encode_lower}

-- a line: a word, and bytes as hexadecimal digits
unfoldable pub told_line : List ℕ → List ℕ → List ℕ
told_line word bytes = word ++ encode_lower bytes ++ codes "\n"

-- the line of the SHA-256, if it is told
abbrev pub digest_told : Option (List ℕ) → List ℕ
digest_told None = []
digest_told (Some digest) = told_line (codes "sha256 ") digest

-- the line of the secret, if it is told
abbrev pub secret_told : Option (List ℕ) → List ℕ
secret_told None = []
secret_told (Some secret) = told_line (codes "secret ") secret

-- what is told of the dice: the SHA-256, and the secret
abbrev pub told_text : Option (List ℕ) → Option (List ℕ) → List ℕ
told_text digest secret = digest_told digest ++ secret_told secret
