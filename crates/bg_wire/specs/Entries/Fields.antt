-- The fields of a layout, one after the other.
use Rattle.std.specs.Prelude.{◌==◌, ℕ, zero, suc, List, length, take, drop, get_or, nat_lt, if◌then◌else◌}

-- how wide the next field is, and which fields follow it, as its bytes say; at last no more
pub data Fields : Type 0 where
  Done : Fields
  Field : (width : ℕ) → (List ℕ → Fields) → Fields

-- the first of the bytes of a field, by which others are told apart
abbrev pub first_byte : List ℕ → ℕ
first_byte bytes = get_or bytes 0 0

-- some fields, and others behind them
abbrev pub followed_by : Fields → Fields → Fields
followed_by Done others = others
followed_by (Field width next) others = Field width (λ bytes. followed_by (next bytes) others)

-- so many fields of a byte
abbrev pub bytes_each : ℕ → Fields
bytes_each zero = Done
bytes_each (suc n) = Field 1 (λ byte. bytes_each n)

-- the width of the field that begins behind these bytes; 0 where they end within a field. Behind
-- the last field each byte is a field
unfoldable pub width_of : Fields → List ℕ → ℕ
width_of Done before = 1
width_of (Field width next) before =
    if length before == 0 then width
    else if nat_lt (length before) width then 0
    else width_of (next (take width before)) (drop width before)
