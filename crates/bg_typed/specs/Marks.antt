-- The hits that are marked by what is typed.
use Rattle.std.specs.Prelude.{◌≡◌, ◌⊎◌, ◌↔◌, ℕ, ◌≤◌, Bool, false, IsTrue, List, length}
use Rattle.bg_board.specs.FromTo.{FromTo}
use Rattle.bg_board.specs.Position.{Position}
use Rattle.bg_board.specs.declared.players.Player.{Player}
use Rattle.bg_mat.specs.Turns.{HasHits}
use Rattle.bg_mat.specs.declared.movements.legs.Leg.{Leg}
use Rattle.bg_typed.specs.Meanings.{has_marks}
use Rattle.bg_typed.specs.TypedWords.{TellsTyped}

-- steps fit the marks of legs: they hit on just the points that are marked, or none is marked
abbrev pub FitsMarks : Position → Player → List Leg → List FromTo → Type 0
FitsMarks board player legs steps = (has_marks legs ≡ false) ⊎ HasHits board player legs steps

-- it is said whether steps fit the marks of what is typed
abbrev pub TellsFit : List ℕ → Position → Player → List FromTo → Bool → Type 0
TellsFit typed board player steps fits =
    (legs : List Leg) × TellsTyped typed legs × (length legs ≤ 4) × (IsTrue fits ↔ FitsMarks board player legs steps)
