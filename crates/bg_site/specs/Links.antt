-- The links of a match.
use Rattle.std.specs.Prelude.{ℕ, List, [], ◌++◌, codes, Option, Some, None}
use Rattle.hex.specs.Hex.{encode_lower}
use Rattle.bg_states.specs.Quoting.{quoted}

-- a link: the words before it, and what it ends with
unfoldable pub link_text : List ℕ → List ℕ → List ℕ
link_text words end = words ++ end ++ codes "\""

-- the hexadecimal digits of what there is, if it is there
abbrev pub digits_of : Option (List ℕ) → List ℕ
digits_of None = []
digits_of (Some bytes) = encode_lower bytes

-- the SHA-256 of the secret of the dice, if there is one
abbrev pub dice_text : Option (List ℕ) → List ℕ
dice_text dice = link_text (codes ",\"dice\":\"") (digits_of dice)

-- who has made a match is told its name, where it is watched, the links of its seats with their
-- secrets, and the SHA-256 of the secret of its dice
unfoldable pub links_text : List ℕ → Option (List ℕ) → List ℕ → List ℕ → List ℕ
links_text name dice x o =
    codes "{\"match\":" ++ quoted name ++ link_text (codes ",\"watch\":\"/matches/") name
    ++ link_text (codes ",\"x\":\"/play#") x ++ link_text (codes ",\"o\":\"/play#") o
    ++ dice_text dice ++ codes "}\n"
