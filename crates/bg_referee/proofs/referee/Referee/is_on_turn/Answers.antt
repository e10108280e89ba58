use Rattle.std.proofs.Common.{◌≡◌, ℕ, false, refl}
use Rattle.bg_board.specs.declared.players.Player.{Player}
use Rattle.bg_match.specs.declared.phases.Actor.{Actor}
use Rattle.bg_match.specs.declared.phases.Actor.TheVariants as actor
use Rattle.bg_match.proofs.Legal.{one_actor}
use Rattle.bg_referee.specs.Takes.{is_on_turn}
use Rattle.bg_referee.proofs.referee.Referee.is_on_turn.Goals as goal

no_seat : (a : Actor) (party : ℕ) → ((player : Player) → a ≡ actor.Seat player → ⊥) → false ≡ is_on_turn a party
no_seat (actor.Seat player) party none = absurd (none player refl)
no_seat actor.Referee party none = refl
no_seat actor.Nobody party none = refl

pub returns-in-Seat : goal.returns-in-Seat
returns-in-Seat c = λ who acts.
    let same = one_actor _ _ who c.actor.result acts (rw (← c.self.view_is) c.actor.ensures) in
    rw (same, c.in-Seat.is, c.party_of.ensures) refl

pub returns-in_default : goal.returns-in_default
returns-in_default c = λ who acts.
    let same = one_actor _ _ who c.actor.result acts (rw (← c.self.view_is) c.actor.ensures) in
    rw same (no_seat c.actor.result c.args.party c.in_default.not-Seat)
