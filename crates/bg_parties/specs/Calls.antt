-- What a party answers to each call, what it is afterwards, and whether a save stays under way.
use Rattle.std.specs.Prelude.{◌≡◌, ℕ, Bool, true, false, List, [], ◌∷◌, Option, Some, None, Result, Ok, Err}
use Rattle.std.specs.Prelude.{if◌then◌else◌}
use Rattle.std.specs.Global.{Vec}
use Rattle.bg_match.specs.Match.{Log}
use Rattle.bg_match.specs.declared.actions.Action.{Action}
use Rattle.bg_wire.specs.Entries.Codes.{referee}
use Rattle.bg_wire.specs.Parties.{party_of}
use Rattle.bg_wire.specs.Saved.Saves.{IsNextSave}
use Rattle.bg_wire.specs.Saved.SavedText.{parts_with}
use Rattle.bg_wire.specs.declared.faults.SaveRefusal.{SaveRefusal}
use Rattle.bg_wire.specs.declared.packets.Packet.{Packet}
use Rattle.bg_wire.specs.declared.saves.slots.Slot.{Slot}
use Rattle.bg_referee.specs.Dues.{RefereeDues}
use Rattle.bg_referee.specs.Referee.{RefereeView, referee_after_save}
use Rattle.bg_referee.specs.Takes.{RefereeTakes}
use Rattle.bg_referee.specs.Ticks.{RefereeTicks}
use Rattle.bg_referee.specs.declared.outcomes.DueFault.{DueFault}
use Rattle.bg_referee.specs.declared.outcomes.TakeOutcome.{TakeOutcome}
use Rattle.bg_referee.specs.declared.outcomes.TakeOutcome.TheVariants as take
use Rattle.bg_party.specs.Claims.{SeatChooses, SeatTicks, WatcherTicks}
use Rattle.bg_party.specs.Takes.{FollowerTakes}
use Rattle.bg_party.specs.Views.{FollowerView, SeatView, WatcherView, seat_after_save}
use Rattle.bg_party.specs.declared.outcomes.ChooseFault.{ChooseFault}
use Rattle.bg_party.specs.declared.outcomes.Learned.{Learned}
use Rattle.bg_party.specs.declared.outcomes.Learned.TheVariants as learned
use Rattle.bg_parties.specs.declared.cores.Core.{Core}
use Rattle.bg_parties.specs.declared.cores.Core.TheVariants as core
use Rattle.bg_parties.specs.declared.faults.RoleFault.{RoleFault}
use Rattle.bg_parties.specs.declared.faults.RoleFault.TheVariants as role_fault
use Rattle.bg_parties.specs.declared.party.Taken.{Taken}
use Rattle.bg_parties.specs.declared.party.Taken.TheVariants as taken

-- ---- what it has

abbrev pub log_of : Core → Log
log_of (core.Referee r) = r.log
log_of (core.Seat s) = s.follower.log
log_of (core.Watcher w) = w.follower.log

-- how many entries are saved, which the referee alone counts
abbrev pub saved_of : Core → Option ℕ
saved_of (core.Referee r) = Some r.saved
saved_of _ = None

-- the last claim of a seat
abbrev pub claim_of : Core → Option (ℕ × Action)
claim_of (core.Seat s) = s.claim
claim_of _ = None

-- ---- what a role answers: what its core does, or that the party has another role

abbrev pub of_core : {T F : Type 0} → Result T F → Result T (RoleFault F)
of_core (Ok value) = Ok value
of_core (Err why) = Err (role_fault.Core why)

-- a call of another role changes nothing
abbrev pub IsOfOtherRole : {T F : Type 0} → Core → Result T (RoleFault F) → Core → Type 0
IsOfOtherRole old result new = (result ≡ Err role_fault.OtherRole) × (new ≡ old)

-- the referee adds an entry of its own
abbrev pub PartyDues : Core → ℕ → Result ℕ (RoleFault DueFault) → Core → Type 0
PartyDues (core.Referee old) word result new =
    (answer : Result ℕ DueFault) × (after : RefereeView) × RefereeDues old word answer after
    × (result ≡ of_core answer) × (new ≡ core.Referee after)
PartyDues old word result new = IsOfOtherRole old result new

-- a seat claims an action
abbrev pub PartyChooses : Core → Action → Result ℕ (RoleFault ChooseFault) → Core → Type 0
PartyChooses (core.Seat old) action result new =
    (answer : Result ℕ ChooseFault) × (after : SeatView) × SeatChooses old action answer after
    × (result ≡ of_core answer) × (new ≡ core.Seat after)
PartyChooses old action result new = IsOfOtherRole old result new

-- ---- what every party does

-- it takes a packet: the referee with a word, which gives the dice of a roll that it accepts
abbrev pub PartyTakes : Core → Packet → ℕ → Taken → Core → Type 0
PartyTakes (core.Referee old) p word result new =
    (answer : TakeOutcome) × (after : RefereeView) × RefereeTakes old p word answer after
    × (result ≡ taken.Referee answer) × (new ≡ core.Referee after)
PartyTakes (core.Seat old) p word result new =
    (answer : Learned) × (after : FollowerView) × FollowerTakes old.follower p answer after
    × (result ≡ taken.Follower answer) × (new ≡ core.Seat (record old { follower = after }))
PartyTakes (core.Watcher old) p word result new =
    (answer : Learned) × (after : FollowerView) × FollowerTakes old.follower p answer after
    × (result ≡ taken.Follower answer) × (new ≡ core.Watcher (record old { follower = after }))

-- what a follower sends goes to the referee
abbrev pub to_referee : Option Packet → List (ℕ × Packet)
to_referee None = []
to_referee (Some p) = (referee, p) ∷ []

-- what it sends unasked, each packet beside the party that it goes to
abbrev pub PartyTicks : Core → List (ℕ × Packet) → Core → Type 0
PartyTicks (core.Referee old) sent new =
    (after : RefereeView) × RefereeTicks old sent after × (new ≡ core.Referee after)
PartyTicks (core.Seat old) sent new =
    (packet : Option Packet) × (after : SeatView) × SeatTicks old packet after
    × (sent ≡ to_referee packet) × (new ≡ core.Seat after)
PartyTicks (core.Watcher old) sent new =
    (packet : Option Packet) × (after : WatcherView) × WatcherTicks old packet after
    × (sent ≡ to_referee packet) × (new ≡ core.Watcher after)

-- ---- saves

-- what is to be saved next: of a seat also its claim; a watcher saves nothing
abbrev pub PartySaves : Core → Result (Slot × ℕ × Vec ℕ) (RoleFault SaveRefusal) → Type 0
PartySaves (core.Referee r) result =
    (answer : Result (Slot × ℕ × Vec ℕ) SaveRefusal)
    × IsNextSave (parts_with referee r.next_save None r.log) answer × (result ≡ of_core answer)
PartySaves (core.Seat s) result =
    (answer : Result (Slot × ℕ × Vec ℕ) SaveRefusal)
    × IsNextSave (parts_with (party_of s.player) s.next_save s.claim s.follower.log) answer
    × (result ≡ of_core answer)
PartySaves (core.Watcher w) result = result ≡ Err role_fault.OtherRole

-- the party after its save of this number was written
abbrev pub after_save : Core → ℕ → Core
after_save (core.Referee r) save = core.Referee (referee_after_save r save)
after_save (core.Seat s) save = core.Seat (seat_after_save s save)
after_save (core.Watcher w) save = core.Watcher w

-- a save is under way from its text on
abbrev pub begun_save : Option ℕ → Result (Slot × ℕ × Vec ℕ) (RoleFault SaveRefusal) → Option ℕ
begun_save old (Ok next) = Some next.1
begun_save old (Err why) = old

-- what changes the record or the claim ends it, since its text lacks that
abbrev pub kept_save : Option ℕ → Bool → Option ℕ
kept_save old changed = if changed then None else old

-- whether the record has grown
abbrev pub grows : Taken → Bool
grows (taken.Referee (take.Accepted number)) = true
grows (taken.Follower (learned.Grew count)) = true
grows _ = false
