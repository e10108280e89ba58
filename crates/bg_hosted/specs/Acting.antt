-- What becomes of an action of a player.
use Rattle.std.specs.Prelude.{◌≡◌, ◌≢◌, ◌↔◌, ◌⊎◌, ℕ, ◌+◌, ◌-◌, ◌<◌, ◌≤◌, Some, Ok, Err, MatchOption, length, take}
use Rattle.bg_board.specs.declared.players.Player.{Player}
use Rattle.bg_match.specs.Answers.{IsAnswer}
use Rattle.bg_match.specs.Match.{Log, SeatAfter, at_number}
use Rattle.bg_match.specs.declared.actions.Action.{Action}
use Rattle.bg_match.specs.declared.entries.Entry.{Entry}
use Rattle.bg_wire.specs.Parties.{party_of}
use Rattle.bg_protocol.specs.Protocol.Roles.{role}
use Rattle.bg_protocol.specs.Worlds.Calls.{Calls}
use Rattle.bg_protocol.specs.Worlds.Nodes.{seat_claim}
use Rattle.bg_protocol.specs.Worlds.Starts.{held_of}
use Rattle.bg_protocol.specs.Worlds.Views.{WorldView, seat_core}
use Rattle.bg_protocol.specs.declared.events.Event.TheVariants as events
use Rattle.bg_protocol.specs.declared.events.Outcome.{Outcome}
use Rattle.bg_protocol.specs.declared.events.Outcome.TheVariants as outcomes
use Rattle.bg_hosted.specs.Going.{GoesOn}
use Rattle.bg_hosted.specs.HostedMatches.{count_of, told_of}
use Rattle.bg_hosted.specs.declared.acting.Acted.{Acted}
use Rattle.bg_hosted.specs.declared.acting.Acted.TheVariants as acted

-- the entry of this number is the player's
pub record IsBy (log : Log) (number : ℕ) (player : Player) : Type 0 where
  pub first : 1 ≤ number
  pub last : number ≤ length log.entries
  pub by : SeatAfter log.terms (take (number - 1) log.entries) (Some player)

-- the entry of this number is the player's, and answers the action
pub record IsAnswered (log : Log) (player : Player) (number : ℕ) (action : Action) : Type 0 where
  pub entry : Entry
  pub is_entry : at_number log.entries number ≡ Some entry
  pub by : IsBy log number player
  pub answer : IsAnswer action entry

-- what is said of an action whose claim is saved: whether its entry is told
abbrev pub TellsEntry : ℕ → WorldView → Acted → Type 0
TellsEntry number new acted.Done = number ≤ count_of (told_of new)
TellsEntry number new acted.Waits = count_of (told_of new) < number
TellsEntry number new _ = ⊥

-- what is said of an action that was claimed: the same, or that the claim was not saved
abbrev pub IsAnsweredBy : ℕ → WorldView → Acted → Type 0
IsAnsweredBy number new acted.Failed = Unit {0}
IsAnsweredBy number new result = TellsEntry number new result

-- what is said where the claim of the player's seat came to this
abbrev pub IsSaidOf : Outcome → ℕ → WorldView → Acted → Type 0
IsSaidOf (outcomes.Chose (Ok claimed)) number new result = IsAnsweredBy number new result
IsSaidOf (outcomes.Chose (Err fault)) number new result = result ≡ acted.Refused fault
IsSaidOf _ number new result = result ≡ acted.Failed

-- The player acts once: his seat is asked to claim the action, and whatever else happens, no player
-- acts by it.
pub record ActsOnce
    (keepers_honest : Type 0) (old : WorldView) (player : Player) (number : ℕ) (action : Action) (result : Acted)
    (new : WorldView) : Type 0 where
  pub outcome : Outcome
  pub mid : WorldView
  pub chosen : Calls (Unit {0}) keepers_honest old (events.Choose player action) outcome mid
  pub goes_on : GoesOn keepers_honest mid new
  pub said : IsSaidOf outcome number new result

-- An action was claimed under the number before. If it is the same, what was claimed goes on, and no
-- player acts; under one number a seat claims one action, so another one is not done.
abbrev pub ActsAgain : Type 0 → WorldView → ℕ → Type 0 → Acted → WorldView → Type 0
ActsAgain keepers_honest old number is_same result new =
    (is_same → GoesOn keepers_honest old new × TellsEntry number new result)
    × ((is_same → ⊥) → (new ≡ old) × (result ≡ acted.OtherEntry))

-- The number is that of the next entry of the seat's record. It acts once, unless the seat has
-- claimed an action under it before.
abbrev pub ActsNext : Type 0 → WorldView → Player → ℕ → Action → Acted → WorldView → Type 0
ActsNext keepers_honest old player number action result new =
    ((claimed : Action) → seat_claim (seat_core old player) ≡ Some (number, claimed)
    → ActsAgain keepers_honest old number (claimed ≡ action) result new)
    × (((claimed : Action) → seat_claim (seat_core old player) ≢ Some (number, claimed))
    → ActsOnce keepers_honest old player number action result new)

-- nothing happens: whether it was done is told by the record
pub record DoesNothing
    (old : WorldView) (log : Log) (player : Player) (number : ℕ) (action : Action) (result : Acted)
    (new : WorldView) : Type 0 where
  pub same : new ≡ old
  pub said : (result ≡ acted.Done) ⊎ (result ≡ acted.OtherEntry)
  pub done : (result ≡ acted.Done) ↔ IsAnswered log player number action

-- An action has the number of the entry that it is to become. It acts where that is the next one of
-- the seat's record, and then once, however often it is sent; under any other number nothing happens.
-- So it does where the seat is down.
abbrev pub Acts : Type 0 → WorldView → Player → ℕ → Action → Acted → WorldView → Type 0
Acts keepers_honest old player number action result new =
    MatchOption (held_of old (role (party_of player))) ((new ≡ old) × (result ≡ acted.Failed))
    (λ log. (number ≡ length log.entries + 1 → ActsNext keepers_honest old player number action result new)
    × (number ≢ length log.entries + 1 → DoesNothing old log player number action result new))
