-- The lines of the last entries.
use Rattle.std.specs.Prelude.{◌≡◌, ℕ, zero, suc, ◌+◌, ◌-◌, Bool, false, Option, List, [], ◌++◌, codes}
use Rattle.std.specs.Prelude.{take, Some}
use Rattle.bg_board.specs.declared.players.Player.{Player}
use Rattle.bg_match.specs.Match.{Log, SeatAfter, at_number}
use Rattle.bg_match.specs.declared.entries.Entry.{Entry}
use Rattle.bg_text.specs.Entries.EntryText.{entry_text}
use Rattle.bg_states.specs.Lists.{comma_text}

-- so many are told at most
abbrev pub most_last : ℕ
most_last = 12

-- the line of the entry of this number, by the seat that made it, or by the referee
pub record IsLineOf (log : Log) (number : ℕ) (line : List ℕ) : Type 0 where
  pub entry : Entry
  pub is_entry : at_number log.entries number ≡ Some entry
  pub seat : Option Player
  pub by : SeatAfter log.terms (take (number - 1) log.entries) seat
  pub is_line : line ≡ entry_text seat entry

-- that line between quotes is added
abbrev pub AddsLine : Log → ℕ → List ℕ → List ℕ → Type 0
AddsLine log number old new =
    (line : List ℕ) × IsLineOf log number line × (new ≡ old ++ codes "\"" ++ line ++ codes "\"")

-- the lines of so many entries from this number on; whether the first of them is that of the list
abbrev pub AreLines : Log → ℕ → ℕ → Bool → List ℕ → Type 0
AreLines log number zero first text = text ≡ []
AreLines log number (suc count) first text =
    (line : List ℕ) × (rest : List ℕ) × IsLineOf log number line
    × AreLines log (number + 1) count false rest
    × (text ≡ comma_text first ++ codes "\"" ++ line ++ codes "\"" ++ rest)

-- these are added
abbrev pub AddsLines : Log → ℕ → ℕ → Bool → List ℕ → List ℕ → Type 0
AddsLines log number count first old new =
    (text : List ℕ) × AreLines log number count first text × (new ≡ old ++ text)
