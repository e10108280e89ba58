-- That no packet of the match is ever refused, and no slot.
use Rattle.std.specs.Prelude.{◌≡◌, ℕ, ◌≤◌, ◌<◌, ◌+◌, Option, Some, List, ◌++◌, length, take}
use Rattle.bg_board.specs.declared.players.Player.{Player}
use Rattle.bg_turns.specs.declared.throws.Dice.{Dice}
use Rattle.bg_match.specs.Answers.{Answers}
use Rattle.bg_match.specs.Match.{IsLegalRecord, IsNext, ActsAfter}
use Rattle.bg_match.specs.Terms.{Terms, rules_of}
use Rattle.bg_match.specs.declared.actions.Action.{Action}
use Rattle.bg_match.specs.declared.entries.Entry.{Entry}
use Rattle.bg_match.specs.declared.limits.Rules.{Rules}
use Rattle.bg_match.specs.declared.phases.Actor.TheVariants.{Seat}
use Rattle.bg_wire.specs.Entries.Codes.{referee}
use Rattle.bg_wire.specs.Parties.{party_of}
use Rattle.bg_wire.specs.Saved.Restoring.{SlotsRestore}
use Rattle.bg_wire.specs.Runs.{IsRun}
use Rattle.bg_wire.specs.Saved.SavedText.{SavedParts}
use Rattle.bg_wire.specs.Saved.SlotLaws.{Slots, AreOfMatch}
use Rattle.bg_wire.specs.declared.packets.Packet.{Packet}
use Rattle.bg_wire.specs.declared.packets.Packet.TheVariants as packet
use Rattle.bg_party.specs.Claims.{trial_dice}
use Rattle.bg_party.specs.Learns.{Agrees, new_entries}
use Rattle.bg_protocol.specs.Protocol.Datagrams.{WasSent}
use Rattle.bg_protocol.specs.Protocol.State.{ProtocolState, Exists, saved_log, log_of, seat_in}

-- the claim could be made after a front of the saved entries: the seat acts there, and the action's
-- entry may follow
pub record IsLegalClaim (terms : Terms) (saved : List Entry) (player : Player) (n : ℕ) (action : Action) : Type 0 where
  pub before : ℕ
  pub number : n ≡ before + 1
  pub within : before ≤ length saved
  pub acts : ActsAfter terms (take before saved) (Seat player)
  pub entry : Entry
  pub of_action : Answers action (Some trial_dice) entry
  pub legal : IsNext terms (take before saved) entry

-- the packet is of this match, and says what its sender may say: a party that exists asks for no
-- more than is saved, a seat claims what it could claim, and entries are saved ones under their own
-- numbers
abbrev pub IsSound : ProtocolState → Packet → Type 0
IsSound w (packet.Want id rules sender held) =
    ((id ≡ w.id) × (rules ≡ rules_of w.terms)) × Exists w sender × (held ≤ w.referee.saved)
IsSound w (packet.Claim id rules sender n action) =
    ((id ≡ w.id) × (rules ≡ rules_of w.terms))
    × ((player : Player) × (sender ≡ party_of player) × IsLegalClaim w.terms (saved_log w) player n action)
IsSound w (packet.Entries id rules start list) =
    ((id ≡ w.id) × (rules ≡ rules_of w.terms)) × IsRun (saved_log w) start list

-- what the referee may be handed: a claim is no later than the next entry, and there it is of the
-- seat that acts, and its entry may follow, with any dice
pub record IsNoClaimRefused (w : ProtocolState) : Type 0 where
  pub not_ahead : (id : ℕ) (rules : Rules) (sender n : ℕ) (a : Action)
      → WasSent w.sent referee (packet.Claim id rules sender n a)
      → n ≤ length w.referee.log + 1
  pub turn : (id : ℕ) (rules : Rules) (sender n : ℕ) (a : Action)
      → WasSent w.sent referee (packet.Claim id rules sender n a)
      → n ≡ length w.referee.log + 1
      → (player : Player) × (sender ≡ party_of player) × ActsAfter w.terms w.referee.log (Seat player)
  pub legal : (id : ℕ) (rules : Rules) (sender n : ℕ) (a : Action)
      → WasSent w.sent referee (packet.Claim id rules sender n a)
      → n ≡ length w.referee.log + 1
      → (dice : Option Dice) (e : Entry) → Answers a dice e → IsNext w.terms w.referee.log e

-- what a follower may be handed: entries agree with its record, and where they join it they
-- continue it legally
pub record AreNoEntriesRefused (w : ProtocolState) : Type 0 where
  pub agree : (party : ℕ) (log : List Entry) (to id : ℕ) (rules : Rules) (start : ℕ) (list : List Entry)
      → 0 < party → log_of w party ≡ Some log → WasSent w.sent to (packet.Entries id rules start list)
      → Agrees log start list
  pub follow : (party : ℕ) (log : List Entry) (to id : ℕ) (rules : Rules) (start : ℕ) (list : List Entry)
      → 0 < party → log_of w party ≡ Some log → WasSent w.sent to (packet.Entries id rules start list)
      → start ≤ length log + 1
      → IsLegalRecord w.terms (log ++ new_entries log start list)

-- no packet that was ever sent is refused for its match, its number, its turn or its rules
pub record IsNoPacketRefused (w : ProtocolState) : Type 0 where
  pub sound : (to : ℕ) (p : Packet) → WasSent w.sent to p → IsSound w p
  pub claims : IsNoClaimRefused w
  pub entries : AreNoEntriesRefused w

-- the slots restore this: a text of this party and match, or nothing, and then the first is empty
pub record AreWhole (id : ℕ) (terms : Terms) (party : ℕ) (slots : Slots) (restorable : Option SavedParts) : Type 0 where
  pub restore : SlotsRestore slots.zero slots.one restorable
  pub of_match : AreOfMatch party id terms slots restorable

-- no slot is refused for its text
pub record IsNoSlotRefused (w : ProtocolState) : Type 0 where
  pub referee : AreWhole w.id w.terms referee w.referee.slots w.referee.restorable
  pub seats : (player : Player)
      → AreWhole w.id w.terms (party_of player) (seat_in w player).slots (seat_in w player).restorable
