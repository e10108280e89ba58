-- A claim is in its ranges.
use Rattle.std.proofs.Common.{◌≡◌, ◌++◌, ◌∷◌, [], ℕ, ◌+◌, ◌≤◌, Some, length, length-append, arith}
use Rattle.bg_match.specs.Limits.{most_entries}
use Rattle.bg_match.specs.declared.actions.Action.{Action}
use Rattle.bg_match.proofs.Answering.{action_in_range}
use Rattle.bg_wire.specs.Saved.SavedText.{IsKeptClaim}
use Rattle.bg_party.specs.Views.{SeatView}
use Rattle.bg_party.specs.Claims.{CanClaim, trial_dice}

-- a claim is in its ranges
pub kept_claim : (s : SeatView) (a : Action) (n : ℕ) → CanClaim s.follower.log.terms s.player s.follower.log.entries s.claim a
    → n ≡ length s.follower.log.entries + 1 → IsKeptClaim (Some (n, a))
kept_claim s a n can next =
    let e = can.2.0 in
    let few : length (s.follower.log.entries ++ e ∷ []) ≤ most_entries = can.2.2.0 in
    let size = length-append s.follower.log.entries (e ∷ []) in
    (omega arith, omega arith, action_in_range s.follower.log.terms s.follower.log.entries a (Some trial_dice) e can.2.1 can.2.2)
