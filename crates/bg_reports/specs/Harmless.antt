-- Bytes of others, as they are shown.
use Rattle.std.specs.Prelude.{ℕ, ◌+◌, ◌-◌, ◌/◌, ◌%◌, ◌==◌, ◌&&◌, nat_lt, nat_le, List, [], ◌∷◌, ◌++◌, length, take}
use Rattle.std.specs.Prelude.{codes, if◌then◌else◌}
use Rattle.std.specs.List.{flat_map}

-- a digit to the base 16: 0 to 9, and a to f
abbrev pub hex_digit : ℕ → ℕ
hex_digit digit = if nat_lt digit 10 then 48 + digit else 87 + digit

-- a byte of ASCII that can be printed stands for itself, but a backslash; any other is an escape
abbrev pub shown_byte : ℕ → List ℕ
shown_byte byte =
    if byte == 9 then codes "\\t"
    else if byte == 13 then codes "\\r"
    else if byte == 92 then codes "\\\\"
    else if nat_le 32 byte && nat_le byte 126 then byte ∷ []
    else codes "\\x" ++ hex_digit (byte / 16) ∷ hex_digit (byte % 16) ∷ []

abbrev pub shown : List ℕ → List ℕ
shown bytes = flat_map shown_byte bytes

-- a mark of what was cut off, where there is room for it
abbrev pub dots_in : ℕ → List ℕ
dots_in room = if nat_lt room 3 then [] else codes "..."

-- a text in so many columns: all of it, or its front and a mark
abbrev pub cut : ℕ → List ℕ → List ℕ
cut room text = if nat_le (length text) room then text else take (room - 3) text ++ dots_in room
