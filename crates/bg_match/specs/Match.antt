-- A whole match, entry by entry.
use Rattle.std.specs.Prelude.{◌≡◌, ◌==◌, ◌↔◌, ℕ, zero, suc, ◌+◌, ◌-◌, ◌<◌, ◌≤◌, true, Option, Some, None, List, [], ◌∷◌}
use Rattle.std.specs.Prelude.{◌++◌, length, take, slice_get, if◌then◌else◌}
use Rattle.bg_board.specs.declared.players.Player.{Player}
use Rattle.bg_match.specs.Limits.{most_entries, shortest_match, longest_match, IsMatchLength}
use Rattle.bg_match.specs.Terms.{Terms, match_length}
use Rattle.bg_match.specs.declared.phases.Actor.{Actor}
use Rattle.bg_match.specs.declared.entries.Entry.{Entry}
use Rattle.bg_match.specs.declared.entries.EntryFault.{EntryFault}
use Rattle.bg_match.specs.declared.entries.EntryFault.TheVariants as fault
use Rattle.bg_match.specs.declared.entries.ExtendFault.{ExtendFault}
use Rattle.bg_match.specs.declared.entries.ExtendFault.TheVariants as extend_fault
use Rattle.bg_match.specs.Actor.{actor_of, seat_of}
use Rattle.bg_match.specs.State.{State, greater_score, start_of}
use Rattle.bg_match.specs.Follows.{Follows, IsEntryFault}

-- the entries lead from s to t, one after the other
abbrev pub Leads : State → List Entry → State → Type 0
Leads s [] t = t ≡ s
Leads s (e ∷ rest) t = (next : State) × Follows s e next × Leads next rest t

-- the entries of a match of these terms lead to t
abbrev pub StandsAt : Terms → List Entry → State → Type 0
StandsAt terms entries t = Leads (start_of terms) entries t

-- a legal match so far
abbrev pub IsLegalRecord : Terms → List Entry → Type 0
IsLegalRecord terms entries = (length entries ≤ most_entries) × ((t : State) × StandsAt terms entries t)

-- the entry may follow: with it the match is legal so far
abbrev pub IsNext : Terms → List Entry → Entry → Type 0
IsNext terms entries e = IsLegalRecord terms (entries ++ e ∷ [])

-- the entry of this number, from 1, is the first that does not follow the ones before it
pub record IsFirstIllegal (terms : Terms) (entries : List Entry) (n : ℕ) : Type 0 where
  pub first : 1 ≤ n
  pub last : n ≤ length entries
  pub before : IsLegalRecord terms (take (n - 1) entries)
  pub illegal : IsLegalRecord terms (take n entries) → ⊥

-- who acts after the entries
abbrev pub ActsAfter : Terms → List Entry → Actor → Type 0
ActsAfter terms entries actor = (s : State) × StandsAt terms entries s × (actor ≡ actor_of s)

-- the player whose seat acts after the entries, if a seat does
abbrev pub SeatAfter : Terms → List Entry → Option Player → Type 0
SeatAfter terms entries seat = (s : State) × StandsAt terms entries s × (seat ≡ seat_of (actor_of s))

-- the greater scores before the games so far, the latest first, where one entry leads from s to t
abbrev pub scores_then : State → State → List ℕ → List ℕ
scores_then s t scores = if t.game == s.game then scores else greater_score t ∷ scores

-- the entries lead from s to t, and the greater scores before the games from those at s to those at
-- t
abbrev pub LeadsWithScores : State → List ℕ → List Entry → State → List ℕ → Type 0
LeadsWithScores s scores [] t all = (t ≡ s) × (all ≡ scores)
LeadsWithScores s scores (e ∷ rest) t all =
    (next : State) × Follows s e next × LeadsWithScores next (scores_then s next scores) rest t all

-- the entries of a match of these terms lead to t, and these are the greater scores before its
-- games, the latest first
abbrev pub StandsWithScores : Terms → List Entry → State → List ℕ → Type 0
StandsWithScores terms entries t scores = LeadsWithScores (start_of terms) (0 ∷ []) entries t scores

-- the latest game is the Crawford game: the greater score before it is one point short of the
-- match, and it is the first game or the greater score before the game before it was less
abbrev pub IsCrawfordGame : ℕ → List ℕ → Type 0
IsCrawfordGame points [] = ⊥
IsCrawfordGame points (latest ∷ []) = latest + 1 ≡ points
IsCrawfordGame points (latest ∷ before ∷ rest) = (latest + 1 ≡ points) × (before < latest)

-- the Crawford mark of t, where the entries lead, is that of the scores before the games
abbrev pub IsMarkedByScores : Terms → List Entry → State → Type 0
IsMarkedByScores terms entries t =
    (scores : List ℕ) × StandsWithScores terms entries t scores
    × ((t.crawford ≡ true) ↔ IsCrawfordGame (match_length terms) scores)

-- every Crawford mark is that of the scores before the games
abbrev pub MarksCrawford : Type 0
MarksCrawford = (terms : Terms) (entries : List Entry) (t : State) (scores : List ℕ)
    → StandsWithScores terms entries t scores → (t.crawford ≡ true) ↔ IsCrawfordGame (match_length terms) scores

-- what a `Record` keeps: where the entries stand, and beside each one the seat that made it, which
-- is the one that acts after the entries before it
pub record IsKept (terms : Terms) (entries : List Entry) (seats : List (Option Player)) (t : State) : Type 0 where
  pub shortest : shortest_match ≤ match_length terms
  pub longest : match_length terms ≤ longest_match
  pub few : length entries ≤ most_entries
  pub stands : StandsAt terms entries t
  pub marked : IsMarkedByScores terms entries t
  pub made : (i : ℕ) (seat : Option Player) → slice_get seats i ≡ Some seat → SeatAfter terms (take i entries) seat

-- what contracts see of a `Record`: spare is its room for further entries
pub record Log : Type 0 where
  pub id : ℕ
  pub terms : Terms
  pub entries : List Entry
  pub spare : ℕ

-- what holds of every record: a match of such terms may be played, and its entries are a legal
-- match so far
pub record IsLog (log : Log) : Type 0 where
  pub points : IsMatchLength (match_length log.terms)
  pub legal : IsLegalRecord log.terms log.entries

-- the record of a match with no entry, and no room for one
abbrev pub empty_log : ℕ → Terms → Log
empty_log id terms = record { id = id; terms = terms; entries = []; spare = 0 }

-- the element of a number, which counts from 1
abbrev pub at_number : {X : Type 0} → List X → ℕ → Option X
at_number xs zero = None
at_number xs (suc i) = slice_get xs i

-- the fault names the first test that fails; want of memory comes last, and only where no room is
-- left
abbrev pub IsRecordFault : EntryFault → Log → Entry → Type 0
IsRecordFault fault.RecordFull log e = most_entries ≤ length log.entries
IsRecordFault fault.Memory log e = (log.spare ≡ 0) × IsNext log.terms log.entries e
IsRecordFault why log e =
    (length log.entries < most_entries) × ((s : State) × StandsAt log.terms log.entries s × IsEntryFault why s e)

-- why a list of entries is refused; want of memory comes last, and only where the room is too small
abbrev pub IsExtendFault : ExtendFault → Log → List Entry → Type 0
IsExtendFault (extend_fault.Illegal n) log list = IsFirstIllegal log.terms (log.entries ++ list) n
IsExtendFault extend_fault.Memory log list =
    (log.spare < length list) × IsLegalRecord log.terms (log.entries ++ list)
