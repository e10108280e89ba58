-- What a player may do now.
use Rattle.std.specs.Prelude.{◌≡◌, ◌↔◌, false, IsTrue}
use Rattle.bg_board.specs.declared.players.Player.{Player}
use Rattle.bg_turns.specs.declared.throws.Dice.{Dice}
use Rattle.bg_match.specs.Actor.{actor_of, passes}
use Rattle.bg_match.specs.Follows.{CanFollow}
use Rattle.bg_match.specs.State.{State}
use Rattle.bg_match.specs.declared.entries.Entry.{Entry}
use Rattle.bg_match.specs.declared.entries.Entry.TheVariants as entry
use Rattle.bg_match.specs.declared.levels.Level.{Level}
use Rattle.bg_match.specs.declared.phases.Actor.TheVariants.{Seat}
use Rattle.bg_match.specs.declared.phases.Phase.TheVariants.{ToMove}
use Rattle.bg_table.specs.declared.offers.Offers.{Offers}

-- the player acts, and the entry may follow
abbrev pub MayMake : State → Player → Entry → Type 0
MayMake s player e = (actor_of s ≡ Seat player) × CanFollow s e

-- a roll of the player may follow, whatever the dice
abbrev pub MayRoll : State → Player → Type 0
MayRoll s player = (dice : Dice) → MayMake s player (entry.Rolled dice)

-- an offer of the player to resign may follow, at each level
abbrev pub MayResign : State → Player → Type 0
MayResign s player = (level : Level) → MayMake s player (entry.Resigned level)

-- the player is to move some dice: exactly the legal turns may follow then
abbrev pub IsToMove : State → Player → Type 0
IsToMove s player = (dice : Dice) × (s.phase ≡ ToMove player dice) × (passes s ≡ false)

-- each kind of action is offered exactly where the match takes one of it from the player
pub record AreOffered (s : State) (player : Player) (o : Offers) : Type 0 where
  pub roll : IsTrue o.roll ↔ MayRoll s player
  pub double : IsTrue o.double ↔ MayMake s player entry.Doubled
  pub take : IsTrue o.take ↔ MayMake s player entry.Taken
  pub drop : IsTrue o.drop ↔ MayMake s player entry.Dropped
  pub accept : IsTrue o.accept ↔ MayMake s player entry.Accepted
  pub reject : IsTrue o.reject ↔ MayMake s player entry.Rejected
  pub turn : IsTrue o.turn ↔ IsToMove s player
  pub resign : IsTrue o.resign ↔ MayResign s player
