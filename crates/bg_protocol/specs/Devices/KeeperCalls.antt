-- What an event does at one party with its keeper: saves and restarts.
use Rattle.std.specs.Prelude.{◌≡◌, ℕ, List, Option, Some, None, Result, Ok, Err, MatchResult}
use Rattle.std.specs.Global.{Vec}
use Rattle.bg_match.specs.Terms.{Terms}
use Rattle.bg_wire.specs.Saved.Restoring.{Restores}
use Rattle.bg_wire.specs.Saved.SavedText.{SavedParts}
use Rattle.bg_wire.specs.Saved.Saves.{IsNextSave}
use Rattle.bg_wire.specs.declared.faults.RestoreRefusal.{RestoreRefusal}
use Rattle.bg_wire.specs.declared.faults.RestoreRefusal.TheVariants as refusals
use Rattle.bg_wire.specs.declared.faults.SaveRefusal.{SaveRefusal}
use Rattle.bg_wire.specs.declared.faults.SaveRefusal.TheVariants as save_refusals
use Rattle.bg_wire.specs.declared.saves.Saved.{Saved}
use Rattle.bg_wire.specs.declared.saves.slots.Slot.{Slot}
use Rattle.bg_wire.specs.declared.saves.slots.Slot.TheVariants as slots
use Rattle.bg_protocol.specs.Devices.DeviceCalls.{ReadsOnce, WritesOnce, read_outcome}
use Rattle.bg_protocol.specs.Worlds.Views.{KeeperView}
use Rattle.bg_protocol.specs.declared.devices.DeviceFault.{DeviceFault}
use Rattle.bg_protocol.specs.declared.events.Outcome.{Outcome}
use Rattle.bg_protocol.specs.declared.events.Outcome.TheVariants as outcomes
use Rattle.bg_protocol.specs.declared.events.RestoreCause.TheVariants as causes
use Rattle.bg_protocol.specs.declared.nodes.saves.Save.{Save}

-- ---- saves

-- what the core gives is the save that is begun; or the outcome says why there is none
abbrev pub begun : Result (Slot × ℕ × Vec ℕ) SaveRefusal → Result Save Outcome
begun (Ok next) = Ok (record { slot = next.0; number = next.1; text = next.2 })
begun (Err save_refusals.SavesSpent) = Err outcomes.SavesSpent
begun (Err save_refusals.Memory) = Err outcomes.Memory

-- a save is begun: what the core gives is to be written; of a party that is down there is none
abbrev pub BeginsSave : {C : Type 0} → (C → SavedParts) → Option C → Result Save Outcome → Type 0
BeginsSave parts_of None result = result ≡ Err outcomes.Down
BeginsSave parts_of (Some core) result =
    (next : Result (Slot × ℕ × Vec ℕ) SaveRefusal) × IsNextSave (parts_of core) next × (result ≡ begun next)

-- the save was written, and the core is as it is then; or the party is down
abbrev pub SaveTold : {C : Type 0} → ℕ → C → Result (Unit {0}) DeviceFault → Outcome → Option C → Type 0
SaveTold save after_save (Ok done) result after = (result ≡ outcomes.Saved save) × (after ≡ Some after_save)
SaveTold save after_save (Err fault) result after = (result ≡ outcomes.SaveFault) × (after ≡ None)

-- the save of this number is ended, whose write had this answer; none is ended at a party that is
-- down
abbrev pub EndsSave : {C : Type 0} → (C → ℕ → C) → Option C → ℕ → Result (Unit {0}) DeviceFault → Outcome → Option C →
    Type 0
EndsSave after_save None save answer result after = ⊥
EndsSave after_save (Some core) save answer result after = SaveTold save (after_save core save) answer result after

-- one write where there is a text to save, and none where there is not
abbrev pub SaveGoesOn : {C : Type 0} → (C → ℕ → C) → Type 0 → KeeperView → C → Result (Slot × ℕ × Vec ℕ) SaveRefusal →
    Outcome → KeeperView → Option C → Type 0
SaveGoesOn after_save honest old core (Ok next) result new after =
    (answer : Result (Unit {0}) DeviceFault) × WritesOnce honest old next.0 next.2.items answer new
    × SaveTold next.1 (after_save core next.1) answer result after
SaveGoesOn after_save honest old core (Err save_refusals.SavesSpent) result new after =
    (result ≡ outcomes.SavesSpent) × (new ≡ old) × (after ≡ Some core)
SaveGoesOn after_save honest old core (Err save_refusals.Memory) result new after =
    (result ≡ outcomes.Memory) × (new ≡ old) × (after ≡ Some core)

-- the core gives its next save, which is written; a party that is down saves nothing
abbrev pub SaveCallsAt : {C : Type 0} → (C → SavedParts) → (C → ℕ → C) → Type 0 → KeeperView → Option C → Outcome →
    KeeperView → Option C → Type 0
SaveCallsAt parts_of after_save honest old None result new after =
    (result ≡ outcomes.Down) × (new ≡ old) × (after ≡ None)
SaveCallsAt parts_of after_save honest old (Some core) result new after =
    (next : Result (Slot × ℕ × Vec ℕ) SaveRefusal) × IsNextSave (parts_of core) next
    × SaveGoesOn after_save honest old core next result new after

-- ---- restarts

abbrev pub refusal_outcome : RestoreRefusal → Outcome
refusal_outcome refusals.Damaged = outcomes.RestoreFault causes.Damaged
refusal_outcome refusals.WrongMatch = outcomes.RestoreFault causes.WrongMatch
refusal_outcome refusals.Memory = outcomes.Memory

-- what is restored, or the outcome that says why nothing is
abbrev pub restored_of : Result (Option Saved) RestoreRefusal → Result (Option Saved) Outcome
restored_of (Ok found) = Ok found
restored_of (Err refusal) = Err (refusal_outcome refusal)

-- slot 1 is read too, and what the two restore is restored
abbrev pub ReadsSecond : Type 0 → ℕ → ℕ → Terms → KeeperView → List ℕ → Result (Option Saved) Outcome → KeeperView →
    Type 0
ReadsSecond honest party id terms old zero restored new =
    (answer : Result (Vec ℕ) DeviceFault) × ReadsOnce honest old slots.One answer new
    × MatchResult answer
    (λ one. (found : Result (Option Saved) RestoreRefusal) × Restores zero one.items party id terms found
    × (restored ≡ restored_of found))
    (λ fault. restored ≡ Err (read_outcome fault))

-- slot 0 is read, and slot 1 only where that read succeeded
abbrev pub ReadsBoth : Type 0 → ℕ → ℕ → Terms → KeeperView → Result (Option Saved) Outcome → KeeperView → Type 0
ReadsBoth honest party id terms old restored new =
    (answer : Result (Vec ℕ) DeviceFault) × (mid : KeeperView) × ReadsOnce honest old slots.Zero answer mid
    × MatchResult answer
    (λ zero. ReadsSecond honest party id terms mid zero.items restored new)
    (λ fault. (restored ≡ Err (read_outcome fault)) × (new ≡ mid))

-- the party comes up with what is restored, fresh where nothing is; or it is down
abbrev pub ComesUp : {C : Type 0} → (Saved → C) → C → Result (Option Saved) Outcome → Outcome → Option C → Type 0
ComesUp resumed fresh (Ok (Some saved)) result after = (result ≡ outcomes.Restarted) × (after ≡ Some (resumed saved))
ComesUp resumed fresh (Ok None) result after = (result ≡ outcomes.Restarted) × (after ≡ Some fresh)
ComesUp resumed fresh (Err why) result after = (result ≡ why) × (after ≡ None)

-- the core is given up, and what the slots restore takes its place
abbrev pub RestartCallsAt : {C : Type 0} → (Saved → C) → C → Type 0 → ℕ → ℕ → Terms → KeeperView → Outcome →
    KeeperView → Option C → Type 0
RestartCallsAt resumed fresh honest party id terms old result new after =
    (restored : Result (Option Saved) Outcome) × ReadsBoth honest party id terms old restored new
    × ComesUp resumed fresh restored result after
