-- The lines of some entries of a record.
use Rattle.std.specs.Prelude.{◌≡◌, ℕ, List, drop, take}
use Rattle.bg_match.specs.Match.{Log}
use Rattle.bg_match.specs.State.{State, start_of}
use Rattle.bg_text.specs.Boards.BoardText.{lines_text}
use Rattle.bg_text.specs.Boards.Transcript.{AreLinesOf}

-- of the lines that the transcript has below that of the terms, at most so many behind those that
-- are skipped
abbrev pub HasLines : Log → ℕ → ℕ → List ℕ → Type 0
HasLines log skipped count text =
    (lines : List (List ℕ)) × (t : State) × AreLinesOf (start_of log.terms) log.entries lines t
    × (text ≡ lines_text (take count (drop skipped lines)))
