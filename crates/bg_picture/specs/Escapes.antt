-- Text from outside in a page.
use Rattle.std.specs.Prelude.{ℕ, List, [], ◌∷◌, ◌==◌, nat_lt, codes, if◌then◌else◌}
use Rattle.std.specs.List.{flat_map}

-- a byte of a text from outside, so that no mark-up begins or ends by it: a character for mark-up
-- by its name or its number, and a control character as a space
unfoldable pub escaped_byte : ℕ → List ℕ
escaped_byte b =
    if b == 38 then codes "&amp;"
    else if b == 60 then codes "&lt;"
    else if b == 62 then codes "&gt;"
    else if b == 34 then codes "&quot;"
    else if b == 39 then codes "&#39;"
    else if nat_lt b 32 then codes " "
    else b ∷ []

unfoldable pub escaped : List ℕ → List ℕ
escaped text = flat_map escaped_byte text
