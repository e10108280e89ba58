-- A transcript that is judged as its bytes come.
use Rattle.std.specs.Prelude.{◌≡◌, ◌≢◌, ℕ, ◌+◌, ◌<◌, ◌≤◌, List, [], ◌∷◌, ◌++◌, length, get_or, Option, None, Some}
use Rattle.bg_match.specs.Follows.{Follows}
use Rattle.bg_match.specs.Limits.{most_entries, IsMatchLength}
use Rattle.bg_match.specs.State.{start_of}
use Rattle.bg_match.specs.Terms.{Terms, match_length}
use Rattle.bg_match.specs.declared.entries.Entry.{Entry}
use Rattle.bg_text.specs.Boards.Transcript.{AreLinesOf, length_line}
use Rattle.bg_text.specs.Judge.Judging.{IsLengthFault, IsLineFault, lines_of}
use Rattle.bg_text.specs.Judge.Reading.{IsLineAt}
use Rattle.bg_text.specs.Limits.{most_bytes}
use Rattle.bg_text.specs.declared.faults.LineFault.{LineFault}
use Rattle.bg_text.specs.declared.judging.courses.Course.{Course}
use Rattle.bg_text.specs.declared.judging.courses.Heard.{Heard}
use Rattle.bg_text.specs.declared.judging.hearing.Judge.{Judge}

-- the lines behind line 1 lead where the course stands
pub record IsCourseOf (terms : Terms) (lines : List (List ℕ)) (c : Course) : Type 0 where
  pub entries : List Entry
  pub leads : AreLinesOf (start_of terms) entries lines c.standing
  pub counted : c.entries ≡ length entries
  pub few : c.entries ≤ most_entries

-- the lines, from line 1 on, are those of a course
abbrev pub IsHeardAs : List (List ℕ) → Course → Type 0
IsHeardAs lines c =
    (terms : Terms) × IsMatchLength (match_length terms)
    × ((behind : List (List ℕ)) × (lines ≡ length_line terms ∷ behind) × IsCourseOf terms behind c)

-- a line continues a course
abbrev pub Continues : Course → Course → List ℕ → Type 0
Continues old new line =
    (e : Entry) × IsLineAt old.standing line e × Follows old.standing e new.standing
    × (old.entries < most_entries) × (new.entries ≡ old.entries + 1)

-- a line is refused: it has a fault, and is that of no entry that may follow
abbrev pub Stops : LineFault → Course → List ℕ → Type 0
Stops why c line =
    IsLineFault why c.entries c.standing line
    × ((e : Entry) → c.entries < most_entries → IsLineAt c.standing line e → ⊥)

-- what is kept of lines: nothing of none, and of others where they lead; of lines of which the last
-- is refused, where those before it lead, and why it is
abbrev pub Keeps : Option Course → Option LineFault → List (List ℕ) → Type 0
Keeps None None lines = lines ≡ []
Keeps (Some c) None lines = IsHeardAs lines c
Keeps None (Some why) lines = (line : List ℕ) × (lines ≡ line ∷ []) × IsLengthFault why lines
Keeps (Some c) (Some why) lines =
    (front : List (List ℕ)) × (line : List ℕ) × (lines ≡ front ++ line ∷ []) × IsHeardAs front c × Stops why c line

-- no byte is a line feed
abbrev pub IsUnended : List ℕ → Type 0
IsUnended bytes = (i : ℕ) → i < length bytes → get_or bytes i 0 ≢ 10

-- whatever follows the bytes, the lines are those that were heard and those of the bytes behind
-- them; once one is refused, the others don't count
abbrev pub Begins : Option LineFault → List ℕ → List ℕ → List (List ℕ) → Type 0
Begins None bytes unended lines =
    IsUnended unended × ((more : List ℕ) → lines_of (bytes ++ more) ≡ lines ++ lines_of (unended ++ more))
Begins (Some why) bytes unended lines =
    (more : List ℕ) → (behind : List (List ℕ)) × (lines_of (bytes ++ more) ≡ lines ++ behind)

-- what was heard of the bytes so far, and the bytes of a line whose end has not come
pub record HasHeard (bytes : List ℕ) (heard : Heard) (unended : List ℕ) : Type 0 where
  pub lines : List (List ℕ)
  pub begins : Begins heard.refusal bytes unended lines
  pub keeps : Keeps heard.course heard.refusal lines

-- all lines, where these were kept: those, or others behind them where one is refused
abbrev pub AreAll : Option LineFault → List (List ℕ) → List (List ℕ) → Type 0
AreAll None lines all = all ≡ lines
AreAll (Some why) lines all = (behind : List (List ℕ)) × (all ≡ lines ++ behind)

-- who was told all of an input, or nobody where it is longer than the limit
abbrev pub IsHeardOf : Option Judge → List ℕ → Type 0
IsHeardOf None input = most_bytes < length input
IsHeardOf (Some judge) input = (length input ≤ most_bytes) × HasHeard input judge.heard judge.unended.items
