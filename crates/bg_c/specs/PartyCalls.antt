-- What the calls of a party come to: its core, and the save that is under way.
use Rattle.std.specs.Prelude.{◌≡◌, ℕ, List, Option, Some, None, Result, Ok, Err, is_ok, nat_le, length, unwrap_or}
use Rattle.std.specs.Prelude.{if◌then◌else◌}
use Rattle.std.specs.Global.{Vec}
use Rattle.bg_match.specs.Entry.{IsAction}
use Rattle.bg_match.specs.Match.{StandsAt}
use Rattle.bg_match.specs.State.{State}
use Rattle.bg_match.specs.declared.actions.Action.{Action}
use Rattle.bg_wire.specs.Packets.PacketText.{IsText}
use Rattle.bg_wire.specs.declared.faults.SaveRefusal.{SaveRefusal}
use Rattle.bg_wire.specs.declared.packets.Packet.{Packet}
use Rattle.bg_wire.specs.declared.saves.slots.Slot.{Slot}
use Rattle.bg_wire.specs.declared.saves.slots.Slot.TheVariants.{Zero, One}
use Rattle.bg_referee.specs.declared.outcomes.DueFault.{DueFault}
use Rattle.bg_party.specs.declared.outcomes.ChooseFault.{ChooseFault}
use Rattle.bg_party.specs.declared.outcomes.ChooseFault.TheVariants.{Illegal}
use Rattle.bg_parties.specs.Calls.{PartyChooses, PartyDues, PartySaves, PartyTakes, PartyTicks}
use Rattle.bg_parties.specs.Calls.{grows, kept_save, log_of, saved_of}
use Rattle.bg_parties.specs.declared.faults.RoleFault.{RoleFault}
use Rattle.bg_parties.specs.declared.faults.RoleFault.TheVariants.{Core}
use Rattle.bg_parties.specs.declared.party.Taken.{Taken}
use Rattle.bg_text.specs.Entries.EntryText.{action_text}
use Rattle.bg_c.specs.Answers.{choose_status, role_status, save_status}
use Rattle.bg_c.specs.Datagrams.{datagram_of, reply_of}
use Rattle.bg_c.specs.Handle.{Held}
use Rattle.bg_c.specs.Outcomes.{outcome_of, why_code}
use Rattle.bg_c.specs.Sets.{with_status}
use Rattle.bg_c.specs.declared.datagrams.Datagram.{Datagram}
use Rattle.bg_c.specs.declared.outcomes.Outcome.{Outcome}
use Rattle.bg_c.specs.declared.statuses.Status.{Status}
use Rattle.bg_c.specs.declared.statuses.Status.TheVariants.{Memory, NotAPacket, NotAnAction}

-- its record leads to this state
abbrev pub PartyStands : Held → State → Type 0
PartyStands party s = StandsAt (log_of party.core).terms (log_of party.core).entries s

-- how many entries it may show to others: the referee those that are saved, as it tells no others,
-- and another party all that it holds
abbrev pub count_told : Held → ℕ
count_told party = unwrap_or (saved_of party.core) (length (log_of party.core).entries)

-- ---- an entry of its own

abbrev pub DueAnswer : Type 0
DueAnswer = Result ℕ (RoleFault DueFault)

pub record HeldDues (old : Held) (word : ℕ) (answer : DueAnswer) (new : Held) : Type 0 where
  pub core : PartyDues old.core word answer new.core
  pub save : new.under_way ≡ kept_save old.under_way (is_ok answer)

-- ---- a packet

pub record HeldTakes (old : Held) (p : Packet) (word : ℕ) (taken : Taken) (new : Held) : Type 0 where
  pub core : PartyTakes old.core p word taken new.core
  pub save : new.under_way ≡ kept_save old.under_way (grows taken)

-- what is told of it, beside what is to be sent back; or there was no memory
abbrev pub told_of : Option Outcome → Datagram → Result (Outcome × Datagram) Status
told_of None reply = Err Memory
told_of (Some outcome) reply = Ok (outcome, reply)

abbrev pub told_of_taken : Taken → Result (Outcome × Datagram) Status
told_of_taken taken = told_of (outcome_of taken) (datagram_of (reply_of taken))

-- the party takes it, and this is told of it
abbrev pub TakesPacket : Held → Packet → ℕ → Result (Outcome × Datagram) Status → Held → Type 0
TakesPacket old p word made new = (taken : Taken) × HeldTakes old p word taken new × (made ≡ told_of_taken taken)

-- bytes: the party takes the packet whose text they are, and where they are none nothing changes
pub record TakesBytes
    (old : Held) (bytes : List ℕ) (word : ℕ) (made : Result (Outcome × Datagram) Status) (new : Held) : Type 0 where
  pub packet : (p : Packet) → IsText p bytes → TakesPacket old p word made new
  pub none : ((p : Packet) → IsText p bytes → ⊥) → (made ≡ Err NotAPacket) × (new ≡ old)

-- ---- a claim

abbrev pub ChooseAnswer : Type 0
ChooseAnswer = Result ℕ (RoleFault ChooseFault)

pub record HeldChooses (old : Held) (action : Action) (answer : ChooseAnswer) (new : Held) : Type 0 where
  pub core : PartyChooses old.core action answer new.core
  pub save : new.under_way ≡ kept_save old.under_way (is_ok answer)

-- the reason that is set: why the action does not follow, and else it is as before
abbrev pub why_after : ChooseAnswer → ℕ → ℕ
why_after (Err (Core (Illegal why))) before = why_code why
why_after _ before = before

-- a text: the seat claims the action whose text it is, and where it is none nothing changes
pub record ChoosesText
    (old : Held) (text : List ℕ) (before : ℕ) (made : Result ℕ Status) (after : ℕ) (new : Held) : Type 0 where
  pub action : (a : Action) → IsAction a → text ≡ action_text a → (answer : ChooseAnswer)
      × HeldChooses old a answer new × (made ≡ with_status (role_status choose_status) answer)
      × (after ≡ why_after answer before)
  pub none : ((a : Action) → IsAction a → text ≡ action_text a → ⊥)
      → (made ≡ Err NotAnAction) × (new ≡ old) × (after ≡ before)

-- ---- what is to be sent

pub record HeldTicks (old : Held) (sent : List (ℕ × Packet)) (new : Held) : Type 0 where
  pub core : PartyTicks old.core sent new.core
  pub save : new.under_way ≡ old.under_way

-- ---- saves

abbrev pub SaveAnswer : Type 0
SaveAnswer = Result (Slot × ℕ × Vec ℕ) (RoleFault SaveRefusal)

abbrev pub slot_code : Slot → ℕ
slot_code Zero = 0
slot_code One = 1

-- the save that is under way: the next one from its text on, none where the text does not fit into
-- the room
abbrev pub save_in_room : Option ℕ → SaveAnswer → List ℕ → Option ℕ
save_in_room old (Ok next) room = if nat_le (length next.2.items) (length room) then Some next.1 else None
save_in_room old (Err why) room = old

-- its text, or why there is none
abbrev pub text_of_save : SaveAnswer → Result (Vec ℕ) Status
text_of_save (Ok next) = Ok next.2
text_of_save (Err why) = Err (role_status save_status why)

-- the numbers of its slot and of itself, which are set where its text fits into the room
abbrev pub numbers_in_room : SaveAnswer → List ℕ → ℕ × ℕ → ℕ × ℕ
numbers_in_room (Ok next) room before =
    if nat_le (length next.2.items) (length room) then (slot_code next.0, next.1) else before
numbers_in_room (Err why) room before = before

pub record HeldSaves (old : Held) (room : List ℕ) (answer : SaveAnswer) (new : Held) : Type 0 where
  pub saves : PartySaves old.core answer
  pub same : new.core ≡ old.core
  pub save : new.under_way ≡ save_in_room old.under_way answer room
