-- What is typed, in the spelling of match files.
use Rattle.std.specs.Prelude.{◌==◌, ◌&&◌, ◌||◌, ℕ, ◌+◌, Bool, true, List, [], ◌∷◌, ◌++◌, map, codes, nat_le}
use Rattle.std.specs.Prelude.{if◌then◌else◌}
use Rattle.bg_mat.specs.Rows.Words.{is_blank}

-- a capital letter in lower case, a slash for a hyphen, a blank for a comma, any other byte as it
-- is
abbrev pub spelled_byte : ℕ → ℕ
spelled_byte byte =
    if nat_le 65 byte && nat_le byte 90 then byte + 32
    else (if byte == 45 then 47 else (if byte == 44 then 32 else byte))

-- behind the byte a point may begin: it is a blank or a slash
abbrev pub separates : ℕ → Bool
separates byte = is_blank byte || byte == 47

-- a point ends before the text: at its end, or at a blank, a slash, the mark of a hit or a bracket
abbrev pub ends_point : List ℕ → Bool
ends_point [] = true
ends_point (byte ∷ rest) = separates byte || (byte == 42 || byte == 40)

-- what a letter stands for that is alone: b for the bar, o for off. Any other byte stands for
-- itself
abbrev pub stands_for : Bool → ℕ → List ℕ
stands_for alone byte =
    if alone && byte == 98 then codes "bar" else (if alone && byte == 111 then codes "off" else byte ∷ [])

-- the text with its lone letters written out. A letter is alone where a point begins and ends with
-- it; whether one begins with the first byte is said
abbrev pub written_out : Bool → List ℕ → List ℕ
written_out begins [] = []
written_out begins (byte ∷ rest) = stands_for (begins && ends_point rest) byte ++ written_out (separates byte) rest

abbrev pub spelled : List ℕ → List ℕ
spelled typed = written_out true (map spelled_byte typed)
