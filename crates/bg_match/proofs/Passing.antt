-- Where a turn is to be passed, the referee acts and nothing but a pass follows; elsewhere the
-- phase says who acts.
use Rattle.std.proofs.Common.{◌≡◌, ◌≢◌, false, true, Option, Some, None, refl, ◌∙◌, ap}
use Rattle.std.specs.Prelude.{IsSome}
use Rattle.bg_board.specs.Position.{Position, opponent}
use Rattle.bg_board.specs.declared.players.Player.{Player}
use Rattle.bg_turns.specs.declared.throws.Dice.{Dice}
use Rattle.bg_match.specs.Actor.{actor_in, actor_of, seat_of, passes_in, passes, IsPassOf}
use Rattle.bg_match.specs.Entry.{IsByReferee}
use Rattle.bg_match.specs.Follows.{Follows, CanFollow, phase_back, is_allowed, is_pass}
use Rattle.bg_match.specs.State.{State}
use Rattle.bg_match.specs.Terms.{rules_of}
use Rattle.bg_match.specs.declared.entries.Entry.{Entry}
use Rattle.bg_match.specs.declared.entries.Entry.TheVariants as entry
use Rattle.bg_match.specs.declared.limits.Rules.{Rules}
use Rattle.bg_match.specs.declared.limits.Rules.TheVariants.{One, Two}
use Rattle.bg_match.specs.declared.phases.Actor.TheVariants.{Referee}
use Rattle.bg_match.specs.declared.phases.Phase.{Phase}
use Rattle.bg_match.specs.declared.phases.Phase.TheVariants as phase

-- where no dice are to be moved nothing is passed
passes_only : (rules : Rules) (board : Position) (ph : Phase) → ((p : Player) (dice : Dice) → ph ≢ phase.ToMove p dice) → passes_in rules board ph ≡ false
unfolding passes_in
passes_only One board ph other = refl
passes_only Two board phase.Opening other = refl
passes_only Two board (phase.ToAct p) other = refl
passes_only Two board (phase.Doubled p) other = refl
passes_only Two board (phase.ToMove p dice) other = absurd (other p dice refl)
passes_only Two board (phase.Resigned p level back) other = refl
passes_only Two board (phase.Over p) other = refl

pub not_passed : (s : State) (ph : Phase) → s.phase ≡ ph → ((p : Player) (dice : Dice) → ph ≢ phase.ToMove p dice) → passes s ≡ false
unfolding passes
not_passed s ph is other = ap (passes_in (rules_of s.terms) s.board) is ∙ passes_only (rules_of s.terms) s.board ph other

pub by_phase : (s : State) → passes s ≡ false → actor_of s ≡ actor_in s.phase
by_phase s none = rw none refl

pub by_pass : (s : State) → passes s ≡ true → actor_of s ≡ Referee
by_pass s pass = rw pass refl

-- who acts before an entry that is not the referee's
pub seat_acts : (s : State) (e : Entry) (t : State) → Follows s e t → (IsByReferee e → ⊥) → (passes s ≡ false) × IsSome (seat_of (actor_in s.phase))
seat_acts s (entry.Opening x o) t h other = absurd (other tt)
seat_acts s entry.Passed t h other = absurd (other tt)
seat_acts s (entry.Rolled dice) t h other = (not_passed s (phase.ToAct h.0) h.1 (λ p dice is. cc), rw h.1 refl)
seat_acts s entry.Doubled t h other = (not_passed s (phase.ToAct h.0) h.1 (λ p dice is. cc), rw h.1 refl)
seat_acts s entry.Taken t h other = (not_passed s (phase.Doubled h.0) h.1 (λ p dice is. cc), rw h.1 refl)
seat_acts s entry.Dropped t h other = (not_passed s (phase.Doubled h.0) h.1 (λ p dice is. cc), rw h.1 refl)
seat_acts s (entry.Moved turn) t h other = (h.3, rw h.2 refl)
seat_acts s (entry.Resigned level) t h other = (h.3, rw h.2 (resigner h.0 h.1)) where
  resigner : (p : Player) (back : Option Dice) → IsSome (seat_of (actor_in (phase_back p back)))
  resigner p None = refl
  resigner p (Some dice) = refl
seat_acts s entry.Accepted t h other = (not_passed s (phase.Resigned h.0 h.1 h.2) h.3 (λ p dice is. cc), rw h.3 refl)
seat_acts s entry.Rejected t h other = (not_passed s (phase.Resigned h.0 h.1 h.2) h.3 (λ p dice is. cc), rw h.3 refl)

-- where a turn is to be passed, a pass may follow
pub pass_can_follow : (s : State) (p : Player) → IsPassOf s p → CanFollow s entry.Passed
pass_can_follow s p h = (record s { phase = phase.ToAct (opponent p) }, (p, h.0, h.1, h.2, refl))

-- where a turn is to be passed, nothing but a pass follows
pub only_passed : (s : State) (e : Entry) → passes s ≡ true → CanFollow s e → e ≡ entry.Passed
only_passed s (entry.Opening x o) pass h = absurd (let none = not_passed s phase.Opening h.1.0 (λ p dice is. cc) in cc)
only_passed s entry.Passed pass h = refl
only_passed s (entry.Rolled dice) pass h = absurd (let none = (seat_acts s (entry.Rolled dice) h.0 h.1 (λ own. own)).0 in cc)
only_passed s entry.Doubled pass h = absurd (let none = (seat_acts s entry.Doubled h.0 h.1 (λ own. own)).0 in cc)
only_passed s entry.Taken pass h = absurd (let none = (seat_acts s entry.Taken h.0 h.1 (λ own. own)).0 in cc)
only_passed s entry.Dropped pass h = absurd (let none = (seat_acts s entry.Dropped h.0 h.1 (λ own. own)).0 in cc)
only_passed s (entry.Moved turn) pass h = absurd (let none = (seat_acts s (entry.Moved turn) h.0 h.1 (λ own. own)).0 in cc)
only_passed s (entry.Resigned level) pass h = absurd (let none = (seat_acts s (entry.Resigned level) h.0 h.1 (λ own. own)).0 in cc)
only_passed s entry.Accepted pass h = absurd (let none = (seat_acts s entry.Accepted h.0 h.1 (λ own. own)).0 in cc)
only_passed s entry.Rejected pass h = absurd (let none = (seat_acts s entry.Rejected h.0 h.1 (λ own. own)).0 in cc)

other_pass : (e : Entry) → (e ≡ entry.Passed → ⊥) → is_pass e ≡ false
other_pass (entry.Opening x o) h = refl
other_pass entry.Passed h = absurd (h refl)
other_pass (entry.Rolled dice) h = refl
other_pass entry.Doubled h = refl
other_pass entry.Taken h = refl
other_pass entry.Dropped h = refl
other_pass (entry.Moved turn) h = refl
other_pass (entry.Resigned level) h = refl
other_pass entry.Accepted h = refl
other_pass entry.Rejected h = refl

pub not_allowed : (s : State) (e : Entry) → passes s ≡ true → (e ≡ entry.Passed → ⊥) → is_allowed s e ≡ false
not_allowed s e pass other = rw pass (other_pass e other)
