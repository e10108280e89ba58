-- Steps, as they are typed.
use Rattle.std.specs.Prelude.{ℕ, List, ◌++◌, codes}
use Rattle.std.specs.List.{flat_map}
use Rattle.bg_board.specs.FromTo.{FromTo}
use Rattle.bg_text.specs.Entries.EntryText.{step_text}

-- a step behind a blank
unfoldable pub spaced_step : FromTo → List ℕ
spaced_step step = codes " " ++ step_text step

-- as in " 24-18 13-11"
abbrev pub steps_text : List FromTo → List ℕ
steps_text steps = flat_map (λ step. spaced_step step) steps
