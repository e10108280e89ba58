-- The two layouts of saved texts: one layout with a parameter. The first is only read; saves are
-- written in the second.
use Rattle.std.specs.Prelude.{◌==◌, ℕ, List, [], ◌∷◌, ◌++◌, length, Option, Some, None, if◌then◌else◌}
use Rattle.std.specs.Int.{Width, w16, w32, w64, byte_len, to_be_bytes, from_be_bytes}
use Rattle.bg_match.specs.Limits.{most_entries}
use Rattle.bg_turns.specs.Turn.{IsTurn}
use Rattle.bg_match.specs.Terms.{Terms, match_length, rules_of}
use Rattle.bg_match.specs.declared.actions.Action.{Action}
use Rattle.bg_match.specs.declared.entries.Entry.{Entry}
use Rattle.bg_match.specs.declared.entries.Entry.TheVariants as entry
use Rattle.bg_match.specs.declared.limits.Rules.{Rules}
use Rattle.bg_match.specs.declared.limits.Rules.TheVariants as rules
use Rattle.bg_wire.specs.Entries.Codes.{rejected_code, passed_code, no_claim_flag, claim_flag, rules_code}
use Rattle.bg_wire.specs.Entries.EntryText.{action_bytes, action_fields}
use Rattle.bg_wire.specs.Entries.Fields.{Fields, Done, Field, followed_by, bytes_each, first_byte}
use Rattle.bg_wire.specs.declared.saves.layouts.Layout.{Layout}
use Rattle.bg_wire.specs.declared.saves.layouts.Layout.TheVariants.{One, Two}

-- ---- what differs

-- what a text begins with: the bytes 42 47 53 31, and 42 47 53 32
abbrev pub magic_of : Layout → ℕ
magic_of One = 0x42475331
magic_of Two = 0x42475332

-- the greatest number of an entry
abbrev pub last_number : Layout → ℕ
last_number One = 65535
last_number Two = most_entries

-- how wide it is
abbrev pub number_size : Layout → Width
number_size One = w16
number_size Two = w32

-- the greatest code of an entry
abbrev pub last_code : Layout → ℕ
last_code One = rejected_code
last_code Two = passed_code

-- the second rules, and passes, are of the second layout alone
abbrev pub TellsPasses : Layout → Type 0
TellsPasses One = ⊥
TellsPasses Two = Unit {0}

-- the entry has a text, and its numbers are in their ranges
abbrev pub IsEntryIn : Layout → Entry → Type 0
IsEntryIn layout (entry.Moved turn) = IsTurn turn
IsEntryIn layout entry.Passed = TellsPasses layout
IsEntryIn layout _ = Unit {0}

-- the rules have a text
abbrev pub AreRulesIn : Layout → Rules → Type 0
AreRulesIn layout rules.One = Unit {0}
AreRulesIn layout rules.Two = TellsPasses layout

-- the rules of the match, which the first layout does not tell
abbrev pub rules_text : Layout → Rules → List ℕ
rules_text One which = []
rules_text Two which = rules_code which ∷ []

-- ---- the bytes, field by field

abbrev pub number_text : Layout → ℕ → List ℕ
number_text layout n = to_be_bytes (number_size layout) n

abbrev pub claim_text : Layout → Option (ℕ × Action) → List ℕ
claim_text layout None = no_claim_flag ∷ []
claim_text layout (Some claim) = claim_flag ∷ (number_text layout claim.0 ++ action_bytes claim.1)

-- what stands before the entries, their count last
abbrev pub front_text : Layout → ℕ → ℕ → Terms → ℕ → Option (ℕ × Action) → ℕ → List ℕ
front_text layout party id terms save claim count =
    to_be_bytes w32 (magic_of layout) ++ (party ∷ (to_be_bytes w64 id ++ (match_length terms
    ∷ (rules_text layout (rules_of terms) ++ (to_be_bytes w32 save
    ++ (claim_text layout claim ++ number_text layout count))))))

-- ---- where fields begin

abbrev pub number_width : Layout → ℕ
number_width layout = byte_len (number_size layout)

-- the claim flag, and then the number and the action of a claim, if there is one
abbrev pub behind_flag : Layout → ℕ → Fields
behind_flag layout flag =
    if flag == no_claim_flag then Done else Field (number_width layout) (λ number. action_fields)

abbrev pub claim_fields : Layout → Fields
claim_fields layout = Field 1 (λ flag. behind_flag layout (first_byte flag))

abbrev pub rules_fields : Layout → Fields
rules_fields layout = bytes_each (length (rules_text layout rules.One))

-- the save number, the claim, and the count of the entries
abbrev pub save_fields : Layout → Fields
save_fields layout =
    Field 4 (λ save. followed_by (claim_fields layout) (Field (number_width layout) (λ count. Done)))

-- the party, the id and the length of the match, the rules, and those
abbrev pub front_fields : Layout → Fields
front_fields layout =
    Field 1 (λ party. Field 8 (λ id. Field 1 (λ terms. followed_by (rules_fields layout) (save_fields layout))))

-- the layout of texts that begin with this
abbrev pub layout_of_magic : ℕ → Layout
layout_of_magic magic = if magic == magic_of One then One else Two

-- the fields before the entries, of either layout. Of the entries each byte is a field
abbrev pub saved_fields : Fields
saved_fields = Field 4 (λ magic. front_fields (layout_of_magic (from_be_bytes w32 magic)))
