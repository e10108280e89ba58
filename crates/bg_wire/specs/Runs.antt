-- Entries under their own numbers.
use Rattle.std.specs.Prelude.{◌≡◌, ℕ, ◌+◌, List, Some, slice_get}
use Rattle.bg_match.specs.declared.entries.Entry.{Entry}
use Rattle.bg_match.specs.Match.{at_number}

-- each of these entries stands in the record under its own number: the first under `start`, the
-- next under the next
abbrev pub IsRun : List Entry → ℕ → List Entry → Type 0
IsRun entries start list =
    (i : ℕ) (e : Entry) → slice_get list i ≡ Some e → at_number entries (start + i) ≡ Some e
