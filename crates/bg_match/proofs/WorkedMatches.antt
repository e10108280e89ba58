-- Worked matches, by the definitions alone.
use Rattle.std.proofs.Common.{◌≡◌, ℕ, true, false, Some, None, List, [], ◌∷◌, ◌++◌, refl, inr, arith, sym, ap}
use Rattle.bg_board.specs.Position.{Position, start_position}
use Rattle.bg_board.specs.declared.players.Player.TheVariants.{X, O}
use Rattle.bg_board.specs.declared.dice.Die.TheVariants.{One, Three, Five, Six}
use Rattle.bg_turns.specs.declared.throws.Dice.{Dice}
use Rattle.bg_match.specs.Limits.{greatest_cube}
use Rattle.bg_match.specs.declared.levels.Level.TheVariants.{Normal, Gammon, Backgammon}
use Rattle.bg_match.specs.declared.phases.Actor.TheVariants.{Referee, Nobody}
use Rattle.bg_match.specs.declared.phases.Phase.TheVariants as phase
use Rattle.bg_match.specs.declared.entries.Entry.{Entry}
use Rattle.bg_match.specs.declared.entries.Entry.TheVariants as entry
use Rattle.bg_match.specs.declared.entries.EntryFault.TheVariants as fault
use Rattle.bg_match.specs.declared.entries.NoDouble.TheVariants as no_double
use Rattle.bg_match.specs.Level.{level_of}
use Rattle.bg_match.specs.Terms.{Terms, terms_of, rules_of}
use Rattle.bg_match.specs.Actor.{passes, passes_in, seat_of}
use Rattle.bg_match.specs.declared.limits.Rules.{Rules}
use Rattle.bg_match.specs.declared.limits.Rules.TheVariants as rules
use Rattle.bg_match.proofs.Passing.{by_phase}
use Rattle.bg_match.specs.State.{State, start_of, middle_cube, after_win}
use Rattle.bg_match.specs.Follows.{Follows, IsEntryFault, after_turn}
use Rattle.bg_match.proofs.Legal.{Leads-append}
use Rattle.bg_match.specs.Match.{StandsAt, StandsWithScores, IsCrawfordGame, ActsAfter, SeatAfter}

-- a match to so many points, by the first rules
abbrev to_points : ℕ → Terms
to_points points = terms_of points rules.One

-- The Crawford game, by the greater scores before the games, the latest first.

-- a match of one point
crawford_at_once : IsCrawfordGame 1 (0 ∷ [])
crawford_at_once = refl

-- 0-0 and 2-0 in a match of three points
crawford_after_gammon : IsCrawfordGame 3 (2 ∷ 0 ∷ [])
crawford_after_gammon = (refl, omega arith)

-- 0-0, 2-0 and 2-1: the game after the Crawford game
crawford_once : IsCrawfordGame 3 (2 ∷ 2 ∷ 0 ∷ []) → ⊥
crawford_once h = omega arith

-- 0-0, 4-0 and 4-4 in a match of five points: nobody is one point short for the first time
crawford_not_again : IsCrawfordGame 5 (4 ∷ 4 ∷ 0 ∷ []) → ⊥
crawford_not_again h = omega arith

-- 0-0 and 3-0 in a match of five points: nobody is one point short
crawford_not_yet : IsCrawfordGame 5 (3 ∷ 0 ∷ []) → ⊥
crawford_not_yet h = omega arith

-- Wins by level: X has fifteen off.

abbrev fifteen_off : List ℕ
fifteen_off = 15 ∷ 0 ∷ 0 ∷ 0 ∷ 0 ∷ 0 ∷ 0 ∷ 0 ∷ 0 ∷ 0 ∷ 0 ∷ 0 ∷ 0 ∷ 0 ∷ 0 ∷ 0 ∷ 0 ∷ 0 ∷ 0 ∷ 0 ∷ 0 ∷ 0 ∷ 0 ∷ 0 ∷ 0 ∷ 0 ∷ []

-- O has one off, though another one is on the bar
normal_win : level_of (record { x = fifteen_off; o = 1 ∷ 13 ∷ 0 ∷ 0 ∷ 0 ∷ 0 ∷ 0 ∷ 0 ∷ 0 ∷ 0 ∷ 0 ∷ 0 ∷ 0 ∷ 0 ∷ 0 ∷ 0 ∷ 0 ∷ 0 ∷ 0 ∷ 0 ∷ 0 ∷ 0 ∷ 0 ∷ 0 ∷ 0 ∷ 1 ∷ [] }) X ≡ Some Normal
normal_win = refl

-- O has one on 18, and none on 19 to 25
gammon_win : level_of (record { x = fifteen_off; o = 0 ∷ 14 ∷ 0 ∷ 0 ∷ 0 ∷ 0 ∷ 0 ∷ 0 ∷ 0 ∷ 0 ∷ 0 ∷ 0 ∷ 0 ∷ 0 ∷ 0 ∷ 0 ∷ 0 ∷ 0 ∷ 1 ∷ 0 ∷ 0 ∷ 0 ∷ 0 ∷ 0 ∷ 0 ∷ 0 ∷ [] }) X ≡ Some Gammon
gammon_win = refl

-- O has one on 19, X's point 6
backgammon_win : level_of (record { x = fifteen_off; o = 0 ∷ 14 ∷ 0 ∷ 0 ∷ 0 ∷ 0 ∷ 0 ∷ 0 ∷ 0 ∷ 0 ∷ 0 ∷ 0 ∷ 0 ∷ 0 ∷ 0 ∷ 0 ∷ 0 ∷ 0 ∷ 0 ∷ 1 ∷ 0 ∷ 0 ∷ 0 ∷ 0 ∷ 0 ∷ 0 ∷ [] }) X ≡ Some Backgammon
backgammon_win = refl

-- O has one on the bar
bar_win : Position
bar_win = record { x = fifteen_off; o = 0 ∷ 14 ∷ 0 ∷ 0 ∷ 0 ∷ 0 ∷ 0 ∷ 0 ∷ 0 ∷ 0 ∷ 0 ∷ 0 ∷ 0 ∷ 0 ∷ 0 ∷ 0 ∷ 0 ∷ 0 ∷ 0 ∷ 0 ∷ 0 ∷ 0 ∷ 0 ∷ 0 ∷ 0 ∷ 1 ∷ [] }

backgammon_on_bar : level_of bar_win X ≡ Some Backgammon
unfolding bar_win
backgammon_on_bar = refl

no_win_yet : level_of start_position X ≡ None
no_win_yet = refl

-- A match of seven points at 3-2, the cube at 2: X bears off his last checker while O has one on
-- the bar.

abbrev six_five : Dice
six_five = record { first = Six; second = Five }

abbrev at_three_two : State
at_three_two = record {
  terms = to_points 7;
  board = start_position;
  phase = phase.ToMove X six_five;
  cube = record { value = 2; owner = Some O };
  x_score = 3;
  o_score = 2;
  crawford = false;
  game = 4;
}

backgammon_wins_match : after_turn at_three_two X bar_win ≡ record at_three_two { board = bar_win; phase = phase.Over X; x_score = 9 }
unfolding bar_win
backgammon_wins_match = refl

-- one point does not win it: the next game opens, and 4-2 is no Crawford score
next_game_opens : after_win at_three_two X 1 ≡ record at_three_two { phase = phase.Opening; cube = middle_cube; x_score = 4; game = 5 }
next_game_opens = refl

-- three points lead to 6-2 and to the Crawford game
crawford_game_opens : after_win at_three_two X 3 ≡ record at_three_two { phase = phase.Opening; cube = middle_cube; x_score = 6; crawford = true; game = 5 }
crawford_game_opens = refl

-- four points of O lead to 3-6 and to the Crawford game too
crawford_game_of_o : after_win at_three_two O 4 ≡ record at_three_two { phase = phase.Opening; cube = middle_cube; o_score = 6; crawford = true; game = 5 }
crawford_game_of_o = refl

-- Doubles in a match of five points.

abbrev x_to_act : State
x_to_act = record (start_of (to_points 5)) { phase = phase.ToAct X; cube = record { value = 2; owner = Some X } }

double_offered : Follows x_to_act entry.Doubled (record x_to_act { phase = phase.Doubled O })
double_offered = (X, refl, record { with_cube = refl; owned = inr refl; below_cap = λ h. omega arith }, refl)

double_taken : Follows (record x_to_act { phase = phase.Doubled O }) entry.Taken (record x_to_act { cube = record { value = 4; owner = Some O } })
double_taken = (O, refl, refl)

-- X wins the value before the double
double_dropped : Follows (record x_to_act { phase = phase.Doubled O }) entry.Dropped (record (start_of (to_points 5)) { x_score = 2; game = 2 })
double_dropped = (O, refl, refl)

not_owner : IsEntryFault (fault.NoDouble no_double.NotOwner) (record x_to_act { cube = record { value = 2; owner = Some O } }) entry.Doubled
not_owner = (X, refl, refl, (refl, refl))

at_cap : IsEntryFault (fault.NoDouble no_double.AtCap) (record x_to_act { cube = record { value = greatest_cube; owner = Some X } }) entry.Doubled
at_cap = (X, refl, refl, (refl, inr refl, refl))

no_cube : IsEntryFault (fault.NoDouble no_double.Crawford) (record (start_of (to_points 1)) { phase = phase.ToAct X }) entry.Doubled
no_cube = (X, refl, refl, refl)

-- A match of three points: O resigns a gammon, X a normal game, and O, whose first offer is
-- rejected, a backgammon.

abbrev one_three : Dice
one_three = record { first = One; second = Three }

abbrev three_one : Dice
three_one = record { first = Three; second = One }

abbrev crawford_comes : List Entry
crawford_comes = entry.Opening One Three ∷ entry.Resigned Gammon ∷ entry.Accepted ∷ []

abbrev crawford_passes : List Entry
crawford_passes = entry.Opening Three One ∷ entry.Resigned Normal ∷ entry.Accepted ∷ []

-- O's first offer is rejected
abbrev last_game : List Entry
last_game = entry.Opening One Three ∷ entry.Resigned Normal ∷ entry.Rejected ∷ entry.Resigned Backgammon ∷ entry.Accepted ∷ []

-- by the first rules no turn is passed
plays : (s : State) → rules_of s.terms ≡ rules.One → passes s ≡ false
unfolding passes passes_in
plays s one = ap (λ (r : Rules). passes_in r s.board s.phase) one

at_two_nil : StandsAt (to_points 3) crawford_comes (record (start_of (to_points 3)) { x_score = 2; crawford = true; game = 2 })
at_two_nil = (_, (refl, λ h. omega arith, refl), (_, (O, Some one_three, refl, plays _ refl, refl), (_, (O, Gammon, Some one_three, refl, refl), refl)))

scores_at_two_nil : StandsWithScores (to_points 3) crawford_comes (record (start_of (to_points 3)) { x_score = 2; crawford = true; game = 2 }) (2 ∷ 0 ∷ [])
scores_at_two_nil = (_, (refl, λ h. omega arith, refl), (_, (O, Some one_three, refl, plays _ refl, refl), (_, (O, Gammon, Some one_three, refl, refl), (refl, refl))))

-- the offer of O was answered by the seat of X
accepted_by_x : SeatAfter (to_points 3) (entry.Opening One Three ∷ entry.Resigned Gammon ∷ []) (Some X)
accepted_by_x = (_, (_, (refl, λ h. omega arith, refl), (_, (O, Some one_three, refl, plays _ refl, refl), refl)), sym (ap seat_of (by_phase _ (plays _ refl))))

referee_opens : ActsAfter (to_points 3) crawford_comes Referee
referee_opens = (_, at_two_nil, sym (by_phase _ (plays _ refl)))

-- the normal game makes it 2-1, and the game after the Crawford game is played with the cube
at_two_one : StandsAt (to_points 3) (crawford_comes ++ crawford_passes) (record (start_of (to_points 3)) { x_score = 2; o_score = 1; game = 3 })
at_two_one = Leads-append (start_of (to_points 3)) crawford_comes crawford_passes _ _ at_two_nil
    (_, (refl, λ h. omega arith, refl), (_, (X, Some three_one, refl, plays _ refl, refl), (_, (X, Normal, Some three_one, refl, refl), refl)))

-- a backgammon ends the match at 5-1: the board, the cube, the number of the game and its mark stay
match_over : StandsAt (to_points 3) (crawford_comes ++ crawford_passes ++ last_game) (record (start_of (to_points 3)) { phase = phase.Over X; x_score = 5; o_score = 1; game = 3 })
match_over = Leads-append (start_of (to_points 3)) (crawford_comes ++ crawford_passes) last_game _ _ at_two_one (
  _,
  (refl, λ h. omega arith, refl),
  (
    _,
    (O, Some one_three, refl, plays _ refl, refl),
    (
      _,
      (O, Normal, Some one_three, refl, refl),
      (_, (O, Some one_three, refl, plays _ refl, refl), (_, (O, Backgammon, Some one_three, refl, refl), refl)),
    ),
  ),
)

nobody_acts : ActsAfter (to_points 3) (crawford_comes ++ crawford_passes ++ last_game) Nobody
nobody_acts = (_, match_over, sym (by_phase _ (plays _ refl)))

equal_dice : IsEntryFault fault.EqualOpening (start_of (to_points 3)) (entry.Opening Five Five)
equal_dice = (Five, Five, refl, refl, refl)

double_in_opening : IsEntryFault fault.WrongPhase (start_of (to_points 3)) entry.Doubled
double_in_opening = (λ p h. cc, rw (plays (start_of (to_points 3)) refl) refl)
