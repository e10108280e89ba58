-- How it is kept which numbers are known: a word of a private model, of which no public clause
-- speaks. Two lists take half the room of one list of options.
use Rattle.std.specs.Prelude.{ℕ, Bool, Option, Some, None, List, [], ◌∷◌, if◌then◌else◌}

-- each number where it is known, in its place
abbrev pub known_numbers : List Bool → List ℕ → List (Option ℕ)
known_numbers [] numbers = []
known_numbers (known ∷ rest) [] = []
known_numbers (known ∷ rest) (number ∷ numbers) = (if known then Some number else None) ∷ known_numbers rest numbers
