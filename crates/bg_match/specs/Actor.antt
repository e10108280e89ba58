-- Who acts.
use Rattle.std.specs.Prelude.{◌≡◌, Bool, true, false, not, if◌then◌else◌, Option, Some, None}
use Rattle.bg_board.specs.Position.{Position, opponent}
use Rattle.bg_board.specs.declared.players.Player.{Player}
use Rattle.bg_turns.specs.HasStep.{has_step}
use Rattle.bg_turns.specs.declared.throws.Dice.{Dice}
use Rattle.bg_match.specs.State.{State}
use Rattle.bg_match.specs.Terms.{rules_of}
use Rattle.bg_match.specs.declared.limits.Rules.{Rules}
use Rattle.bg_match.specs.declared.limits.Rules.TheVariants.{Two}
use Rattle.bg_match.specs.declared.phases.Actor.{Actor}
use Rattle.bg_match.specs.declared.phases.Actor.TheVariants.{Referee, Seat, Nobody}
use Rattle.bg_match.specs.declared.phases.Phase.{Phase}
use Rattle.bg_match.specs.declared.phases.Phase.TheVariants.{Opening, ToAct, Doubled, ToMove, Resigned, Over}

-- under the second rules the turn of a player who has no step is passed
unfoldable pub passes_in : Rules → Position → Phase → Bool
passes_in Two board (ToMove p dice) = not (has_step board p dice)
passes_in _ board _ = false

-- the turn is to be passed
unfoldable pub passes : State → Bool
passes s = passes_in (rules_of s.terms) s.board s.phase

-- the turn of this player is to be passed
abbrev pub IsPassOf : State → Player → Type 0
IsPassOf s p = (dice : Dice) × (s.phase ≡ ToMove p dice) × (passes s ≡ true)

-- who acts by the phase alone: the referee opens a game, an offer to resign is answered by the
-- other player, and after the match nobody acts
abbrev pub actor_in : Phase → Actor
actor_in Opening = Referee
actor_in (ToAct p) = Seat p
actor_in (Doubled p) = Seat p
actor_in (ToMove p dice) = Seat p
actor_in (Resigned p level back) = Seat (opponent p)
actor_in (Over p) = Nobody

-- who acts: the referee where a turn is to be passed, and else as the phase says
abbrev pub actor_of : State → Actor
actor_of s = if passes s then Referee else actor_in s.phase

-- the player whose seat acts, if a seat does
abbrev pub seat_of : Actor → Option Player
seat_of Referee = None
seat_of (Seat p) = Some p
seat_of Nobody = None
