-- Where a match stands, as C sees it.
use Rattle.std.specs.Prelude.{ℕ, Bool, List, [], ◌∷◌, ◌++◌, drop, take, replicate, reverse, Option, Some, None, if◌then◌else◌}
use Rattle.bg_board.specs.declared.players.Player.{Player}
use Rattle.bg_board.specs.declared.players.Player.TheVariants.{X, O}
use Rattle.bg_turns.specs.Dice.{first_pips, second_pips}
use Rattle.bg_turns.specs.declared.throws.Dice.{Dice}
use Rattle.bg_match.specs.Actor.{actor_of}
use Rattle.bg_match.specs.Level.{multiple}
use Rattle.bg_match.specs.State.{State}
use Rattle.bg_match.specs.Terms.{match_length, rules_of}
use Rattle.bg_match.specs.declared.phases.Phase.{Phase}
use Rattle.bg_match.specs.declared.phases.Phase.TheVariants as phase
use Rattle.bg_table.specs.Pips.{pip_count}
use Rattle.bg_wire.specs.Entries.Codes.{rules_code}
use Rattle.bg_c.specs.Outcomes.{actor_code}
use Rattle.bg_c.specs.declared.standings.StandingFields.{StandingFields}

-- a player's checkers by the opponent's points, who numbers the 24 the other way: off stays first,
-- and the bar last
abbrev pub turned : List ℕ → List ℕ
turned counts = take 1 counts ++ (reverse (take 24 (drop 1 counts)) ++ drop 25 counts)

-- the number of a player, if there is one
abbrev pub player_code : Option Player → ℕ
player_code None = 0
player_code (Some X) = 1
player_code (Some O) = 2

abbrev pub phase_code : Phase → ℕ
phase_code phase.Opening = 0
phase_code (phase.ToAct p) = 1
phase_code (phase.Doubled p) = 2
phase_code (phase.ToMove p dice) = 3
phase_code (phase.Resigned p level back) = 4
phase_code (phase.Over p) = 5

-- who is to roll, to answer a double or to move, who has offered to resign, or who has won
abbrev pub player_in : Phase → Option Player
player_in phase.Opening = None
player_in (phase.ToAct p) = Some p
player_in (phase.Doubled p) = Some p
player_in (phase.ToMove p dice) = Some p
player_in (phase.Resigned p level back) = Some p
player_in (phase.Over p) = Some p

-- the dice that are still to be moved
abbrev pub dice_in : Phase → Option Dice
dice_in (phase.ToMove p dice) = Some dice
dice_in (phase.Resigned p level back) = back
dice_in _ = None

abbrev pub dice_codes : Option Dice → List ℕ
dice_codes None = replicate 2 0
dice_codes (Some dice) = first_pips dice ∷ second_pips dice ∷ []

-- the level of an offer to resign, which is how many times the cube it counts
abbrev pub level_code : Phase → ℕ
level_code (phase.Resigned p level back) = multiple level
level_code _ = 0

abbrev pub crawford_code : Bool → ℕ
crawford_code crawford = if crawford then 1 else 0

abbrev pub standing_fields : State → StandingFields
standing_fields s = record {
  match_length = match_length s.terms;
  rules = rules_code (rules_of s.terms);
  game = s.game;
  crawford = crawford_code s.crawford;
  x_score = s.x_score;
  o_score = s.o_score;
  cube = s.cube.value;
  cube_owner = player_code s.cube.owner;
  phase = phase_code s.phase;
  player = player_code (player_in s.phase);
  level = level_code s.phase;
  dice = dice_codes (dice_in s.phase);
  actor = actor_code (actor_of s);
  x_pips = pip_count s.board X;
  o_pips = pip_count s.board O;
  x_checkers = s.board.x;
  o_checkers = turned s.board.o;
  reserved = replicate 12 0;
}
