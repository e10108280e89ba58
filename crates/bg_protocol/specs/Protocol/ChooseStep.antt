-- A player chooses an action, and his seat claims it.
use Rattle.std.specs.Prelude.{◌≡◌, ◌+◌, false, Some, Ok, Err, length}
use Rattle.bg_board.specs.declared.players.Player.{Player}
use Rattle.bg_match.specs.Terms.{Terms}
use Rattle.bg_match.specs.declared.actions.Action.{Action}
use Rattle.bg_party.specs.Claims.{CanClaim}
use Rattle.bg_protocol.specs.declared.events.Outcome.{Outcome}
use Rattle.bg_protocol.specs.declared.events.Outcome.TheVariants as outcomes
use Rattle.bg_protocol.specs.Protocol.State.{SeatState}

-- The action is claimed as the next entry, and not saved yet, exactly where the seat can claim it.
abbrev pub ChooseStep : Terms → Player → Action → Outcome → SeatState → SeatState → Type 0
ChooseStep terms player action (outcomes.Chose (Ok n)) old new =
    CanClaim terms player old.log old.claim action × (n ≡ length old.log + 1)
    × (new ≡ record old { claim = Some (n, action); claim_saved = false })
ChooseStep terms player action (outcomes.Chose (Err why)) old new =
    (CanClaim terms player old.log old.claim action → ⊥) × (new ≡ old)
ChooseStep terms player action _ old new = ⊥
