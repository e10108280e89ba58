-- What a search within one turn needs of a position, and the lists of steps that it finds.
use Rattle.std.specs.Prelude.{◌≡◌, ◌==◌, ◌↔◌, ℕ, zero, suc, ◌+◌, ◌-◌, ◌<◌, ◌≤◌, Bool, ◌&&◌, ◌||◌, nat_lt, List, [], ◌∷◌, ◌++◌, length, map, sum, drop, slice_index, if◌then◌else◌}
use Rattle.bg_board.specs.FromTo.{FromTo}
use Rattle.bg_board.specs.Step.{carried}
use Rattle.bg_board.specs.Position.{Position, checkers, opponent, count}
use Rattle.bg_board.specs.declared.players.Player.{Player}
use Rattle.bg_turns.specs.declared.mover_counts.MoverCounts.{MoverCounts}

-- the mover's checkers are fifteen
pub record IsMoverCounts (r : MoverCounts) : Type 0 where
  pub points : length r.own ≡ 26
  pub fifteen : sum r.own ≡ 15

-- the highest point with a checker, 0 where all are off
pub record IsHighest (own : List ℕ) (point : ℕ) : Type 0 where
  pub within : point ≤ 25
  pub none_above : (k : ℕ) → point < k → slice_index own k ≡ 0
  pub held : 0 < point → 0 < slice_index own point

-- the step by a die from a point
abbrev pub step_of : ℕ → ℕ → FromTo
step_of from die = record { from = from; to = from - die }

-- the same by numbers: how many stand here and on the bar, how many of the other where it lands,
-- how many stand outside the home board and above
abbrev pub can_by : ℕ → ℕ → ℕ → ℕ → ℕ → ℕ → ℕ → Bool
can_by here bar other outside above from die =
    nat_lt 0 here && ((bar == 0 || from == 25)
    && (if nat_lt die from then nat_lt other 2 else ((outside == 0) && (from == die || above == 0))))

-- whether the mover can play a step by a die from a point
unfoldable pub can : MoverCounts → ℕ → ℕ → Bool
can r from die =
    can_by (slice_index r.own from) (slice_index r.own 25) (slice_index r.other (25 - (from - die)))
    (sum (drop 7 r.own)) (sum (drop (from + 1) r.own)) from die

-- a checker is carried; the other's checkers stay, since whether two of them hold a point does
abbrev pub after : MoverCounts → ℕ → ℕ → MoverCounts
after r from to = record { own = carried r.own from to; other = r.other }

unfoldable pub is_off : MoverCounts → Bool
is_off r = slice_index r.own 0 == 15

-- the lists that begin with a step and go on with one of the others
abbrev pub begin : FromTo → List (List FromTo) → List (List FromTo)
begin step rests = map (λ rest. step ∷ rest) rests

-- the lists at the points from n down to 1
unfoldable pub at_each : (ℕ → List (List FromTo)) → ℕ → List (List FromTo)
at_each f zero = []
at_each f (suc n) = f (suc n) ++ at_each f n

-- a step by the die from a point, where it can be played, and what follows it
abbrev pub one_die : MoverCounts → ℕ → (MoverCounts → List (List FromTo)) → ℕ → List (List FromTo)
one_die r die rest from =
    if can r from die then begin (step_of from die) (rest (after r from (from - die))) else []

-- the lists of k steps by the same die, and those that bear off the last checker
unfoldable pub tree : ℕ → ℕ → MoverCounts → List (List FromTo)
tree die zero r = [] ∷ []
tree die (suc k) r = if is_off r then [] ∷ [] else at_each (one_die r die (tree die k)) 25

-- a step by the one die or the other; where both bear off it is one step
abbrev pub two_dice : MoverCounts → ℕ → ℕ → (MoverCounts → List (List FromTo)) → (MoverCounts → List (List FromTo))
    → (MoverCounts → List (List FromTo)) → ℕ → List (List FromTo)
two_dice r small large both after_small after_large from =
    if can r from small && (can r from large && nat_lt from (small + 1))
    then begin (step_of from small) (both (after r from (from - small)))
    else one_die r small after_small from ++ one_die r large after_large from

-- the lists of k steps by different dice, and those that bear off the last checker
unfoldable pub pairs : ℕ → ℕ → ℕ → MoverCounts → List (List FromTo)
pairs small large zero r = [] ∷ []
pairs small large (suc k) r =
    if is_off r then [] ∷ []
    else at_each (two_dice r small large (pairs small large k) (tree large k) (tree small k)) 25

-- the lists behind some steps
abbrev pub behind : List FromTo → List (List FromTo) → List (List FromTo)
behind front lists = map (λ rest. front ++ rest) lists

-- the mover's counts stand for a position
pub record Stands (r : MoverCounts) (b : Position) (p : Player) : Type 0 where
  pub own : r.own ≡ checkers b p
  pub held : (q : ℕ) → 1 ≤ q → q ≤ 24 → (slice_index r.other q ≤ 1) ↔ (count b (opponent p) q ≤ 1)
  pub points : length r.own ≡ 26
  pub points_other : length (checkers b (opponent p)) ≡ 26
