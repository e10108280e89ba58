-- Reading fields from left to right, up to the first fault, as the code does it: words of private
-- contracts, of which no public clause speaks.
use Rattle.std.specs.Prelude.{◌≡◌, ℕ, zero, suc, ◌+◌, ◌==◌, Bool, false, List, [], ◌∷◌, length, take, drop, Result, Ok, Err, nat_lt, ◌||◌, if◌then◌else◌}
use Rattle.std.specs.Int.{w16, w32, w64, from_be_bytes}
use Rattle.bg_wire.specs.declared.entries.reader.ReadFault.{ReadFault}
use Rattle.bg_wire.specs.declared.entries.reader.ReadFault.TheVariants.{Short, Field}
use Rattle.bg_wire.specs.declared.entries.reader.FieldFault.{FieldFault}
use Rattle.bg_wire.specs.declared.entries.reader.FieldFault.TheVariants as field

-- the bytes that are left, and the offset where they begin
pub record Cursor : Type 0 where
  pub at : ℕ
  pub rest : List ℕ

-- a value and where the reading goes on, or a fault
abbrev pub Read : Type 0 → Type 0
Read A = Result (A × Cursor) ReadFault

infixl 10 ◌>>=◌
abbrev pub ◌>>=◌ : {A B : Type 0} → Result A ReadFault → (A → Result B ReadFault) → Result B ReadFault
(Ok x) >>= f = f x
(Err e) >>= f = Err e

-- the fault of a field that begins there
abbrev pub fault_at : FieldFault → ℕ → ReadFault
fault_at field.Short at = Short
fault_at field.OutOfRange at = Field at

-- what a reader returned, and where it stopped, is what reading gives. At a fault it stands at the
-- field
abbrev pub Reads : {A : Type 0} → Result A FieldFault → Cursor → Read A → Type 0
Reads (Ok x) new read = read ≡ Ok (x, new)
Reads (Err e) new read = read ≡ Err (fault_at e new.at)

-- what a reader put into a place, with what it returned and where it stopped, is what reading gives.
-- At a fault it stands at the field, and the place has nothing to tell
abbrev pub Fills : {A B : Type 0} → Result B FieldFault → A → Cursor → Read A → Type 0
Fills (Ok _) value new read = read ≡ Ok (value, new)
Fills (Err e) value new read = read ≡ Err (fault_at e new.at)

-- the number is out of its range
abbrev pub is_outside : ℕ → ℕ → ℕ → Bool
is_outside low high n = nat_lt n low || nat_lt high n

abbrev pub byte_of : ℕ → ℕ → ℕ → List ℕ → Read ℕ
byte_of low high at [] = Err Short
byte_of low high at (b ∷ rest) =
    if is_outside low high b then Err (Field at) else Ok (b, record { at = at + 1; rest = rest })

-- a byte from low to high
unfoldable pub u8_at : ℕ → ℕ → Cursor → Read ℕ
u8_at low high c = byte_of low high c.at c.rest

-- so many bytes as a number, which may be wrong
abbrev pub number_at : ℕ → (List ℕ → ℕ) → (ℕ → Bool) → Cursor → Read ℕ
number_at size value_of is_wrong c =
    if nat_lt (length c.rest) size then Err Short
    else if is_wrong (value_of (take size c.rest)) then Err (Field c.at)
    else Ok (value_of (take size c.rest), record { at = c.at + size; rest = drop size c.rest })

-- a number of two bytes, from low to high
unfoldable pub u16_at : ℕ → ℕ → Cursor → Read ℕ
u16_at low high = number_at 2 (from_be_bytes w16) (is_outside low high)

-- any number of eight bytes
unfoldable pub u64_at : Cursor → Read ℕ
u64_at = number_at 8 (from_be_bytes w64) (λ n. false)

-- a number of four bytes, from low to high
unfoldable pub u32_at : ℕ → ℕ → Cursor → Read ℕ
u32_at low high = number_at 4 (from_be_bytes w32) (is_outside low high)

-- what is read becomes another value
abbrev pub with : {A B : Type 0} → (A → B) → Read A → Read B
with f read = read >>= λ x. Ok (f x.0, x.1)

-- so many, one after the other
unfoldable pub many_at : {A : Type 0} → (Cursor → Read A) → ℕ → Cursor → Read (List A)
many_at one zero c = Ok ([], c)
many_at one (suc n) c = do
  first ← one c
  others ← many_at one n first.1
  Ok (first.0 ∷ others.0, others.1)

-- a value and no byte after it, with the faults of its texts
abbrev pub whole_of : {A E : Type 0} → (ReadFault → E) → E → Read A → Result A E
whole_of fault_of extra (Ok read) = if length (read.1).rest == 0 then Ok read.0 else Err extra
whole_of fault_of extra (Err why) = Err (fault_of why)
