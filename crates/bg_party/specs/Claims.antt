-- What a seat claims, and what followers send.
use Rattle.std.specs.Prelude.{◌≡◌, ℕ, ◌+◌, ◌<◌, ◌≤◌, false, nat_lt, Option, Some, None, List, length, Result, Ok, Err}
use Rattle.std.specs.Prelude.{IsOk, IfSome, ◌↔◌, if◌then◌else◌, ◌&&◌}
use Rattle.bg_match.specs.Terms.{Terms, rules_of}
use Rattle.bg_board.specs.declared.dice.Die.TheVariants.{One}
use Rattle.bg_board.specs.declared.players.Player.{Player}
use Rattle.bg_turns.specs.declared.throws.Dice.{Dice}
use Rattle.bg_match.specs.declared.actions.Action.{Action}
use Rattle.bg_match.specs.declared.entries.Entry.{Entry}
use Rattle.bg_match.specs.declared.phases.Actor.TheVariants.{Seat}
use Rattle.bg_match.specs.Answers.{Answers}
use Rattle.bg_match.specs.Match.{Log, ActsAfter, IsRecordFault, IsNext}
use Rattle.bg_wire.specs.Packets.PacketText.{IsPacket}
use Rattle.bg_wire.specs.Parties.{party_of}
use Rattle.bg_wire.specs.declared.packets.Packet.{Packet}
use Rattle.bg_wire.specs.declared.packets.Packet.TheVariants as packet
use Rattle.bg_party.specs.declared.outcomes.ChooseFault.{ChooseFault}
use Rattle.bg_party.specs.declared.outcomes.ChooseFault.TheVariants as fault
use Rattle.bg_party.specs.Retry.{is_due, after_tick}
use Rattle.bg_party.specs.Views.{FollowerView, SeatView, WatcherView}

-- the number of a claim, 0 where there is none
abbrev pub claim_number : Option (ℕ × Action) → ℕ
claim_number None = 0
claim_number (Some claim) = claim.0

-- a roll is tried with these dice: whether it follows does not depend on them
abbrev pub trial_dice : Dice
trial_dice = record { first = One; second = One }

-- the seat of the player acts after the entries, its last claim is answered by them, and the entry
-- of the action follows
abbrev pub CanClaim : Terms → Player → List Entry → Option (ℕ × Action) → Action → Type 0
CanClaim terms player entries claim action =
    ActsAfter terms entries (Seat player) × (claim_number claim ≤ length entries)
    × ((e : Entry) × Answers action (Some trial_dice) e × IsNext terms entries e)

-- the fault names the first test that fails
abbrev pub IsChooseFault : ChooseFault → Log → Player → Option (ℕ × Action) → Action → Type 0
IsChooseFault fault.NotYourTurn log player claim action = ActsAfter log.terms log.entries (Seat player) → ⊥
IsChooseFault fault.AlreadyClaimed log player claim action =
    ActsAfter log.terms log.entries (Seat player) × (length log.entries < claim_number claim)
IsChooseFault (fault.Illegal why) log player claim action =
    ActsAfter log.terms log.entries (Seat player) × (claim_number claim ≤ length log.entries)
    × ((e : Entry) × Answers action (Some trial_dice) e
    × (IsNext log.terms log.entries e → ⊥) × IsRecordFault why log e)

-- the action can be claimed, as the next entry; or why not
abbrev pub MayClaim : Log → Player → Option (ℕ × Action) → Action → Result ℕ ChooseFault → Type 0
MayClaim log player claim action (Ok n) =
    CanClaim log.terms player log.entries claim action × (n ≡ length log.entries + 1)
MayClaim log player claim action (Err why) = IsChooseFault why log player claim action

-- the action is claimed as the next entry, and not saved yet; or nothing changes
abbrev pub Chooses : SeatView → Action → Result ℕ ChooseFault → SeatView → Type 0
Chooses old action (Ok n) new =
    MayClaim old.follower.log old.player old.claim action (Ok n)
    × (new ≡ record old { claim = Some (n, action); claim_saved = false })
Chooses old action (Err why) new = MayClaim old.follower.log old.player old.claim action (Err why) × (new ≡ old)

-- what a seat makes of an action that its player chooses: it is claimed exactly where it can be
pub record SeatChooses
    (old : SeatView) (action : Action) (result : Result ℕ ChooseFault) (new : SeatView) : Type 0 where
  pub chooses : Chooses old action result new
  pub can : IsOk result ↔ CanClaim old.follower.log.terms old.player old.follower.log.entries old.claim action

-- what a party that holds the record asks for
abbrev pub want_of : ℕ → Log → Packet
want_of party log = packet.Want log.id (rules_of log.terms) party (length log.entries)

-- what a seat sends, where it does: its claim, once that is saved and until its record answers it;
-- else what it wants
abbrev pub packet_of_seat : SeatView → Packet
packet_of_seat s = claimed s.claim where
  claimed : Option (ℕ × Action) → Packet
  claimed None = want_of (party_of s.player) s.follower.log
  claimed (Some claim) =
      if s.claim_saved && nat_lt (length s.follower.log.entries) claim.0
      then packet.Claim s.follower.log.id (rules_of s.follower.log.terms) (party_of s.player) claim.0 claim.1
      else want_of (party_of s.player) s.follower.log

-- what a follower sends on a tick: this packet where it is due, else nothing
abbrev pub sent_when_due : FollowerView → Packet → Option Packet
sent_when_due f p = if is_due f.retry then Some p else None

-- a tick later
abbrev pub ticked : FollowerView → FollowerView
ticked f = record f { retry = after_tick f.retry }

-- what a seat sends on a tick, to the referee; and the seat afterwards
pub record SeatTicks (old : SeatView) (sent : Option Packet) (new : SeatView) : Type 0 where
  pub packet : sent ≡ sent_when_due old.follower (packet_of_seat old)
  pub fits : IfSome sent IsPacket
  pub after : new ≡ record old { follower = ticked old.follower }

-- what a watcher sends on a tick, to the referee; and the watcher afterwards
pub record WatcherTicks (old : WatcherView) (sent : Option Packet) (new : WatcherView) : Type 0 where
  pub packet : sent ≡ sent_when_due old.follower (want_of old.party old.follower.log)
  pub fits : IfSome sent IsPacket
  pub after : new ≡ record old { follower = ticked old.follower }
