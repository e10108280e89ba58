-- The numbers that limit a match.
use Rattle.std.specs.Prelude.{ℕ, ◌+◌, ◌*◌, ◌-◌, ◌≤◌}

-- entries are numbered from 1 to this number
abbrev pub most_entries : ℕ
most_entries = 1000000

-- a match is played to so many points
abbrev pub shortest_match : ℕ
shortest_match = 1

abbrev pub longest_match : ℕ
longest_match = 99

-- a match may be played to so many points
abbrev pub IsMatchLength : ℕ → Type 0
IsMatchLength points = (shortest_match ≤ points) × (points ≤ longest_match)

-- what the cube shows at most
abbrev pub greatest_cube : ℕ
greatest_cube = 128

-- what a won game counts at most: a backgammon with the greatest cube
abbrev pub greatest_win : ℕ
greatest_win = 3 * greatest_cube

-- one point short of the longest match, and then the greatest win
abbrev pub greatest_score : ℕ
greatest_score = longest_match - 1 + greatest_win
