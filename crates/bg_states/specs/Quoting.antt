-- Texts as JSON has them.
use Rattle.std.specs.Prelude.{ℕ, ◌==◌, ◌||◌, nat_lt, List, [], ◌∷◌, ◌++◌, codes, if◌then◌else◌}
use Rattle.std.specs.List.{flat_map}

-- a quote and a backslash stand behind a backslash, and a blank stands for each control character
abbrev pub escaped_byte : ℕ → List ℕ
escaped_byte byte =
    (if byte == 34 || byte == 92 then 92 ∷ [] else []) ++ (if nat_lt byte 32 then 32 else byte) ∷ []

abbrev pub escaped : List ℕ → List ℕ
escaped text = flat_map escaped_byte text

abbrev pub quoted : List ℕ → List ℕ
quoted text = codes "\"" ++ escaped text ++ codes "\""
