-- How a player of a match may be called.
use Rattle.std.specs.Prelude.{◌≡◌, ℕ, ◌-◌, Bool, not, ◌||◌, ◌==◌, if◌then◌else◌, List, Option, Some, None, length, slice_index}
use Rattle.std.specs.Char.{is_control}
use Rattle.std.specs.Int.{is_in_range}
use Rattle.std.specs.List.{list_any}
use Rattle.std.specs.Str.{chars, IsUtf8}
use Rattle.bg_system.specs.declared.files.names.NameFault.{NameFault}
use Rattle.bg_system.specs.declared.files.names.NameFault.TheVariants.{Length, Character, Blank}

-- the most bytes that a name has
abbrev pub most_name_bytes : ℕ
most_name_bytes = 64

-- a character is not seen: a control character, or one that ends a line or turns the direction of a
-- text
abbrev pub is_unseen : ℕ → Bool
is_unseen c =
    is_control c || c == 0x061C || is_in_range 0x200E 0x200F c || is_in_range 0x2028 0x202E c
    || is_in_range 0x2066 0x2069 c

-- a text begins or ends with a blank
abbrev pub has_outer_blank : List ℕ → Bool
has_outer_blank text = slice_index text 0 == 32 || slice_index text (length text - 1) == 32

-- the first reason why a text is no name, if there is one
abbrev pub name_fault : List ℕ → Option NameFault
name_fault text =
    if not (is_in_range 1 most_name_bytes (length text)) then Some Length
    else if list_any is_unseen (chars text) then Some Character
    else if has_outer_blank text then Some Blank
    else None

-- a name
pub record IsName (text : List ℕ) : Type 0 where
  pub valid : IsUtf8 text
  pub fine : name_fault text ≡ None
