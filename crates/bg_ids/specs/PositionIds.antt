-- The Position ID of a board.
use Rattle.std.specs.Prelude.{◌≡◌, ◌≢◌, ℕ, Bool, true, false, List, [], ◌∷◌, ◌++◌, length, drop, replicate, codes}
use Rattle.std.specs.List.{flat_map}
use Rattle.base64.specs.Engines.{standard_no_pad}
use Rattle.base64.specs.GeneralPurpose.{IsBytes, encode_of}
use Rattle.bg_board.specs.Position.{Position, IsPosition, opponent, checkers}
use Rattle.bg_board.specs.declared.players.Player.{Player}
use Rattle.bg_ids.specs.Bits.{number_bits, bits_text}
use Rattle.bg_ids.specs.declared.reading.PositionIdFault.{PositionIdFault}
use Rattle.bg_ids.specs.declared.reading.PositionIdFault.TheVariants.{NotTenBytes, NoBoard}

-- a one for each checker on a point, and a zero
abbrev pub point_bits : ℕ → List Bool
point_bits count = replicate count true ++ false ∷ []

-- the points of a player from his 1 to his 24, and his bar. His checkers that are off are not told
abbrev pub side_bits : List ℕ → List Bool
side_bits counts = flat_map point_bits (drop 1 counts)

-- both players, the one who is not on roll first
abbrev pub position_bits : Position → Player → List Bool
position_bits b on_roll = side_bits (checkers b (opponent on_roll)) ++ side_bits (checkers b on_roll)

-- the Position ID: ten bytes, which are 14 characters
abbrev pub position_text : Position → Player → List ℕ
position_text b on_roll = bits_text 10 (position_bits b on_roll)

-- the text is these ten bytes in base64
pub record IsOfBytes (text : List ℕ) (bytes : List ℕ) : Type 0 where
  pub small : IsBytes bytes
  pub ten : length bytes ≡ 10
  pub same : text ≡ encode_of standard_no_pad bytes

abbrev pub IsOfTenBytes : List ℕ → Type 0
IsOfTenBytes text = (bytes : List ℕ) × IsOfBytes text bytes

-- the text is ten bytes in base64, and these are their bits
abbrev pub HasBits : List ℕ → List Bool → Type 0
HasBits text bits = (bytes : List ℕ) × IsOfBytes text bytes × (bits ≡ flat_map (number_bits 8) bytes)

-- why a text is not the Position ID of a board
abbrev pub IsPositionIdFault : PositionIdFault → List ℕ → Player → Type 0
IsPositionIdFault NotTenBytes text on_roll = IsOfTenBytes text → ⊥
IsPositionIdFault NoBoard text on_roll =
    IsOfTenBytes text × ((b : Position) → IsPosition b → text ≢ position_text b on_roll)

abbrev pub position_id_fault_words : PositionIdFault → List ℕ
position_id_fault_words NotTenBytes = codes "not ten bytes in base64"
position_id_fault_words NoBoard = codes "no board has this ID"
