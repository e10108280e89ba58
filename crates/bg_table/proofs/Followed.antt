-- What may follow, by the kind of the entry.
use Rattle.std.proofs.Common.{◌≡◌, ◌↔◌, Bool, true, false, sym, ◌∙◌, ap, refl}
use Rattle.std.specs.Prelude.{IsTrue}
use Rattle.bg_board.specs.declared.players.Player.{Player}
use Rattle.bg_turns.specs.declared.throws.Dice.{Dice}
use Rattle.bg_match.specs.Actor.{actor_in, actor_of, passes}
use Rattle.bg_match.specs.State.{State}
use Rattle.bg_match.specs.declared.entries.Entry.TheVariants as entry
use Rattle.bg_match.specs.declared.levels.Level.{Level}
use Rattle.bg_match.specs.declared.phases.Actor.TheVariants.{Referee, Seat}
use Rattle.bg_match.specs.declared.phases.Phase.TheVariants as phase
use Rattle.bg_match.proofs.Passing.{by_pass, by_phase}
use Rattle.bg_table.specs.Offering.{IsToMove, MayMake, MayResign, MayRoll}

-- where some dice may follow, all may
pub rolls : (s : State) (p : Player) (dice : Dice) (b : Bool)
    → IsTrue b ↔ MayMake s p (entry.Rolled dice) → IsTrue b ↔ MayRoll s p
rolls s p dice b h = (λ yes. any (h.0 yes), λ all. h.1 (all dice)) where
  any : MayMake s p (entry.Rolled dice) → MayRoll s p
  any may other =
      (may.0, (record s { phase = phase.ToMove may.1.1.0 other }, (may.1.1.0, may.1.1.1, refl)))

-- where one level may follow, all may
pub resigns : (s : State) (p : Player) (level : Level) (b : Bool)
    → IsTrue b ↔ MayMake s p (entry.Resigned level) → IsTrue b ↔ MayResign s p
resigns s p level b h = (λ yes. any (h.0 yes), λ all. h.1 (all level)) where
  any : MayMake s p (entry.Resigned level) → MayResign s p
  any may other =
      let of = may.1.1 in
      (may.0, (record s { phase = phase.Resigned of.0 other of.1 }, (of.0, of.1, of.2, of.3, refl)))

-- the player of the phase moves, where a seat acts
pub moves : (s : State) (mover acting player : Player) (dice : Dice) (b : Bool)
    → s.phase ≡ phase.ToMove mover dice → actor_of s ≡ Seat acting → IsTrue b ↔ (mover ≡ player)
    → IsTrue b ↔ IsToMove s player
moves s mover acting player dice b is acts h = (
  λ yes. (dice, is ∙ ap (λ (p : Player). phase.ToMove p dice) (h.0 yes), played (passes s) refl),
  λ moved. h.1 (same moved.0 moved.1),
) where
  played : (t : Bool) → passes s ≡ t → passes s ≡ false
  played false none = none
  played true pass = absurd (let refereed : Seat acting ≡ Referee = sym acts ∙ by_pass s pass in cc)

  same : (other : Dice) → s.phase ≡ phase.ToMove player other → mover ≡ player
  same other to = let both : phase.ToMove mover dice ≡ phase.ToMove player other = sym is ∙ to in cc

-- where nobody's seat acts, or the phase is another, nobody is to move
pub acts_to_move : (s : State) (player : Player) → IsToMove s player → actor_of s ≡ Seat player
acts_to_move s player h = by_phase s h.2 ∙ ap actor_in h.1
