-- How a transcript is read, line by line.
use Rattle.std.specs.Prelude.{◌≡◌, ℕ, ◌<◌, ◌≤◌, List, [], ◌∷◌, ◌++◌, ◌-◌, length, take, slice_index_or, Option, None, Some}
use Rattle.bg_match.specs.Terms.{Terms}
use Rattle.bg_board.specs.declared.players.Player.{Player}
use Rattle.bg_match.specs.Actor.{actor_of, seat_of}
use Rattle.bg_match.specs.Entry.{IsEntry}
use Rattle.bg_match.specs.Follows.{Follows}
use Rattle.bg_match.specs.Match.{Log, StandsAt, at_number}
use Rattle.bg_match.specs.State.{State, start_of}
use Rattle.bg_match.specs.Limits.{most_entries}
use Rattle.bg_match.specs.declared.entries.Entry.{Entry}
use Rattle.bg_match.specs.declared.entries.EntryFault.{EntryFault}
use Rattle.bg_match.specs.declared.entries.EntryFault.TheVariants as entry_fault
use Rattle.bg_text.specs.Entries.EntryText.{entry_text, IsSeatOf}
use Rattle.bg_text.specs.Boards.BoardText.{line_text, lines_text}
use Rattle.bg_text.specs.Boards.Transcript.{AreLinesOf, length_line}
use Rattle.bg_text.specs.Judge.Judging.{IsWrongSeat, IsLineFault, IsLongestPart, lines_of}
use Rattle.bg_text.specs.declared.faults.LineFault.{LineFault}
use Rattle.bg_text.specs.declared.faults.LineFault.TheVariants.{Entry as RefusedEntry}
use Rattle.bg_text.specs.declared.judging.reading.AddFault.{AddFault}
use Rattle.bg_text.specs.declared.judging.reading.AddFault.TheVariants.{Refused, Memory}

-- the line is the entry's, and does not name the seat that must not act
abbrev pub IsReadAs : State → List ℕ → Entry → Type 0
IsReadAs s line e =
    (seat : Option Player) × IsSeatOf seat e × IsEntry e × (line ≡ entry_text seat e) × (IsWrongSeat seat s → ⊥)

-- the line is that of an entry which follows s
abbrev pub IsLineAt : State → List ℕ → Entry → Type 0
IsLineAt s line e = (line ≡ entry_text (seat_of (actor_of s)) e) × ((t : State) × Follows s e t)

-- new is old with the entry of a line
abbrev pub AddsLine : Log → Log → List ℕ → Type 0
AddsLine old new line =
    (e : Entry) × (s : State) × StandsAt old.terms old.entries s × IsLineAt s line e
    × (length old.entries < most_entries) × (new.entries ≡ old.entries ++ e ∷ []) × (new.terms ≡ old.terms)
    × (new.id ≡ old.id)

-- what becomes of a refused push
abbrev pub fault_of_push : EntryFault → AddFault
fault_of_push entry_fault.Memory = Memory
fault_of_push why = Refused (RefusedEntry why)

-- a line is refused: it has a fault, and is that of no entry that may follow
abbrev pub RefusesLine : AddFault → Log → List ℕ → Type 0
RefusesLine Memory r line = Unit {0}
RefusesLine (Refused why) r line =
    (s : State) × StandsAt r.terms r.entries s × IsLineFault why (length r.entries) s line
    × ((e : Entry) → length r.entries < most_entries → IsLineAt s line e → ⊥)

-- a record of the first lines, and the bytes of those that are left
pub record IsPartRead (id : ℕ) (terms : Terms) (lines : List (List ℕ)) (r : Log) (rest : List ℕ) : Type 0 where
  pub done : List (List ℕ)
  pub split : lines ≡ done ++ lines_of rest
  pub state : State
  pub entries : AreLinesOf (start_of terms) r.entries done state
  pub few : length r.entries ≤ most_entries
  pub same_terms : r.terms ≡ terms
  pub same_id : r.id ≡ id

-- n lines that lead to t are all, or the line of index n is refused
abbrev pub IsStop : Option LineFault → List (List ℕ) → ℕ → State → Type 0
IsStop None lines n t = n ≡ length lines
IsStop (Some why) lines n t = (n < length lines) × IsLineFault why n t (slice_index_or lines n [])

-- the record of the longest legal part of the lines after line 1, and why the line behind that is
-- refused, if one is
pub record AreRead (id : ℕ) (terms : Terms) (lines : List (List ℕ)) (r : Log) (why : Option LineFault) : Type 0 where
  pub state : State
  pub same_id : r.id ≡ id
  pub same_terms : r.terms ≡ terms
  pub longest : IsLongestPart terms lines (length r.entries) state
  pub entries : AreLinesOf (start_of terms) r.entries (take (length r.entries) lines) state
  pub stop : IsStop why lines (length r.entries) state

-- new is old with the line of the entry of this number
abbrev pub AddsLineOf : Log → ℕ → List ℕ → List ℕ → Type 0
AddsLineOf r number old new =
    (s : State) × (e : Entry) × StandsAt r.terms (take (number - 1) r.entries) s × (at_number r.entries number ≡ Some e)
    × (new ≡ old ++ line_text (entry_text (seat_of (actor_of s)) e))

-- the lines so far of the transcript of a record, whose next entry has this number
pub record IsPartWritten (r : Log) (number : ℕ) (text : List ℕ) : Type 0 where
  pub lines : List (List ℕ)
  pub state : State
  pub each : AreLinesOf (start_of r.terms) (take (number - 1) r.entries) lines state
  pub written : text ≡ lines_text (length_line r.terms ∷ lines)
