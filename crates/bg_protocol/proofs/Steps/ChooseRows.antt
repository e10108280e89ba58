-- A seat's choice is a row of the protocol.
use Rattle.std.specs.Prelude.{◌≡◌, ℕ, Option, Some, None, Result, Ok, Err, MatchOption}
use Rattle.std.proofs.Common.{refl, sym, ◌∙◌, ap, subst}
use Rattle.bg_board.specs.declared.players.Player.{Player}
use Rattle.bg_match.specs.declared.actions.Action.{Action}
use Rattle.bg_match.specs.Terms.{Terms}
use Rattle.bg_wire.specs.Saved.SlotLaws.{Slots}
use Rattle.bg_wire.specs.Saved.SavedText.{SavedParts}
use Rattle.bg_party.specs.declared.outcomes.ChooseFault.{ChooseFault}
use Rattle.bg_party.specs.Claims.{CanClaim, SeatChooses}
use Rattle.bg_party.specs.Views.{SeatView}
use Rattle.bg_protocol.specs.declared.events.Event.TheVariants as events
use Rattle.bg_protocol.specs.declared.events.Outcome.{Outcome}
use Rattle.bg_protocol.specs.declared.events.Outcome.TheVariants as outcomes
use Rattle.bg_protocol.specs.Worlds.WorldState.{CoresMatch, Restorable, SeatMatches, SeatSide, restorable_of, seat_state, protocol_state}
use Rattle.bg_protocol.specs.Worlds.Calls.{ChooseCalls, NoCalls}
use Rattle.bg_protocol.specs.Worlds.Views.{WorldView, seat_core, seat_keeper, with_seat_core}
use Rattle.bg_protocol.specs.Protocol.Frames.{IfUp, SeatChanges}
use Rattle.bg_protocol.specs.Protocol.State.{SeatState, seat_in}
use Rattle.bg_protocol.specs.Protocol.ChooseStep.{ChooseStep}
use Rattle.bg_protocol.proofs.Steps.Sides.{StepsTo, seat_side, seat_moves, seat_stays, down_row}

module _ (id : ℕ) (terms : Terms) (q : Player) (a : Action) (slots : Slots) (found : Option SavedParts)
    (s : SeatView) (fits : SeatMatches id terms q found s) where
  -- what the core asks of a claim is what the protocol asks
  can : CanClaim s.follower.log.terms s.player s.follower.log.entries s.claim a
      → CanClaim terms q s.follower.log.entries s.claim a
  can h =
      subst (λ (m : Terms). CanClaim m q s.follower.log.entries s.claim a) fits.log.1
      (subst (λ (p : Player). CanClaim s.follower.log.terms p s.follower.log.entries s.claim a) fits.sits_for h)

  can_not : (CanClaim s.follower.log.terms s.player s.follower.log.entries s.claim a → ⊥)
      → CanClaim terms q s.follower.log.entries s.claim a → ⊥
  can_not refused h =
      refused (subst (λ (m : Terms). CanClaim m s.player s.follower.log.entries s.claim a) (sym fits.log.1)
      (subst (λ (p : Player). CanClaim terms p s.follower.log.entries s.claim a) (sym fits.sits_for) h))

  chose : (told : Result ℕ ChooseFault) (s' : SeatView) → SeatChooses s a told s'
      → ChooseStep terms q a (outcomes.Chose told) (seat_state (Some s) slots found)
      (seat_state (Some s') slots found) × SeatMatches id terms q found s'
  chose (Ok n) s' h =
      let e = h.chooses.1 in
      let c = h.chooses.0 in (
        (can c.0, c.1, ap (λ (x : SeatView). seat_state (Some x) slots found) e),
        record {
          sits_for = ap (λ (x : SeatView). x.player) e ∙ fits.sits_for;
          log = (
            ap (λ (x : SeatView). x.follower.log.id) e ∙ fits.log.0,
            ap (λ (x : SeatView). x.follower.log.terms) e ∙ fits.log.1,
          );
          next = ap (λ (x : SeatView). x.next_save) e ∙ fits.next;
        },
      )
  chose (Err why) s' h =
      let e = h.chooses.1 in (
        (can_not (λ c. let ok = h.can.1 c in absurd cc), ap (λ (x : SeatView). seat_state (Some x) slots found) e),
        subst (SeatMatches id terms q found) (sym e) fits,
      )

-- the row of a seat's choice, between its states
abbrev ChooseRow : Terms → Player → Action → Outcome → SeatState → SeatState → Type 0
ChooseRow terms q a o old new = IfUp old.up old o new (ChooseStep terms q a o old new)

pub choose_goes : (w : WorldView) (c : Restorable) (q : Player) (a : Action) (o : Outcome) (new : WorldView)
    → CoresMatch w c → ChooseCalls w q a o new → StepsTo w c (events.Choose q a) o new
choose_goes w c q a o new fits h = at (seat_core w q) (seat_side w c q fits) refl h
  where
    went : (x : Outcome) (n : WorldView) → o ≡ x → new ≡ n
        → SeatChanges (protocol_state w c) q (protocol_state n c) (ChooseRow w.terms q a x (seat_in (protocol_state w c) q))
        → CoresMatch n c → StepsTo w c (events.Choose q a) o new
    went x n e f row fit =
        subst (λ (y : Outcome). StepsTo w c (events.Choose q a) y new) (sym e)
        (subst (λ (y : WorldView). StepsTo w c (events.Choose q a) x y) (sym f)
        (record { restorable = c; step = row; cores = fit }))

    at : (s : Option SeatView) → SeatSide w.id w.terms q s (seat_keeper w q) (restorable_of c q) → seat_core w q ≡ s
        → MatchOption s (NoCalls outcomes.Down w o new)
        (λ s. (told : Result ℕ ChooseFault) × (s' : SeatView) × SeatChooses s a told s' × (o ≡ outcomes.Chose told)
        × (new ≡ with_seat_core w q (Some s')))
        → StepsTo w c (events.Choose q a) o new
    at None side is k =
        went outcomes.Down w k.0 k.1 (seat_stays w c q (ChooseRow w.terms q a outcomes.Down) is
        (λ s down. down_row s.up s _ down)) fits
    at (Some s) side is k =
        let t = chose w.id w.terms q a (seat_keeper w q).slots (restorable_of c q) s side.1 k.0 k.1 k.2 in
        let moved = seat_moves w c q w.link (Some k.1) (ChooseRow w.terms q a (outcomes.Chose k.0)) fits refl
        (subst (λ (x : Option SeatView). ChooseRow w.terms q a (outcomes.Chose k.0)
        (seat_state x (seat_keeper w q).slots (restorable_of c q))
        (seat_state (Some k.1) (seat_keeper w q).slots (restorable_of c q))) (sym is) t.0) (side.0, t.1) in
        went (outcomes.Chose k.0) (with_seat_core w q (Some k.1)) k.3 k.4 moved.0 moved.1
