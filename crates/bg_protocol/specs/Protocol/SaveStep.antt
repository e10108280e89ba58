-- A party saves.
use Rattle.std.specs.Prelude.{◌≡◌, ℕ, true, false, List, Option, None, length}
use Rattle.bg_board.specs.declared.players.Player.{Player}
use Rattle.bg_match.specs.Terms.{Terms}
use Rattle.bg_match.specs.declared.actions.Action.{Action}
use Rattle.bg_match.specs.declared.entries.Entry.{Entry}
use Rattle.bg_wire.specs.Entries.Codes.{referee}
use Rattle.bg_wire.specs.Parties.{party_of}
use Rattle.bg_wire.specs.Saved.SavedText.{SavedParts}
use Rattle.bg_wire.specs.Saved.SlotLaws.{Slots}
use Rattle.bg_protocol.specs.declared.events.Outcome.{Outcome}
use Rattle.bg_protocol.specs.declared.events.Outcome.TheVariants as outcomes
use Rattle.bg_protocol.specs.declared.roles.Role.{Role}
use Rattle.bg_protocol.specs.declared.roles.Role.TheVariants.{Referee as AsReferee, Seat as AsSeat, Watcher as AsWatcher}
use Rattle.bg_protocol.specs.Protocol.Frames.{IfUp, SeatChanges, NoParty}
use Rattle.bg_protocol.specs.Protocol.Slots.{SaveWritten, SaveTorn, next_number}
use Rattle.bg_protocol.specs.Protocol.State.{ProtocolState, SeatState, restored_referee, restored_seat, seat_in}

-- what the next save of a party tells: its number is one above that of the save that the slots
-- restore
abbrev pub to_save : ℕ → ℕ → Terms → Option SavedParts → Option (ℕ × Action) → List Entry → SavedParts
to_save party id terms found claim log =
    record { party = party; id = id; terms = terms; save = next_number found; claim = claim; entries = log }

abbrev pub to_save_referee : ProtocolState → SavedParts
to_save_referee w = to_save referee w.id w.terms w.referee.restorable None w.referee.log

abbrev pub to_save_seat : ℕ → Terms → Player → SeatState → SavedParts
to_save_seat id terms player f = to_save (party_of player) id terms f.restorable f.claim f.log

-- The save that tells p, over these slots: what is to hold of the slots that it leaves, and of what
-- they restore, where it was written, and where it was torn. Where there is no number or no memory
-- for it, nothing changes.
abbrev pub SavesTo : SavedParts → Slots → Outcome → (Slots → Option SavedParts → Type 0)
    → (Slots → Option SavedParts → Type 0) → Type 0 → Type 0
SavesTo p old (outcomes.Saved k) Written Torn Same =
    (k ≡ p.save)
    × ((slots : Slots) × (found : Option SavedParts) × SaveWritten p old slots found × Written slots found)
SavesTo p old outcomes.SaveFault Written Torn Same =
    (slots : Slots) × (found : Option SavedParts) × SaveTorn p old slots found × Torn slots found
SavesTo p old outcomes.SavesSpent Written Torn Same = Same
SavesTo p old outcomes.Memory Written Torn Same = Same
SavesTo p old _ Written Torn Same = ⊥

-- a save that is written makes all entries count as saved, and a seat's claim; after one that is
-- not the party is down
abbrev pub RefereeSaveStep : ProtocolState → Outcome → ProtocolState → Type 0
RefereeSaveStep w o v =
    let r = w.referee in
    SavesTo (to_save_referee w) r.slots o
    (λ slots found. v ≡ record w { referee = record r { saved = length r.log; slots = slots; restorable = found } })
    (λ slots found. v ≡ record w { referee = restored_referee slots found false }) (v ≡ w)

abbrev pub SeatSaveStep : ℕ → Terms → Player → Outcome → SeatState → SeatState → Type 0
SeatSaveStep id terms player o old new =
    SavesTo (to_save_seat id terms player old) old.slots o
    (λ slots found. new ≡ record old { claim_saved = true; slots = slots; restorable = found })
    (λ slots found. new ≡ restored_seat slots found false) (new ≡ old)

-- The referee and the seats save, and a watcher does not.
abbrev pub SaveStep : ProtocolState → Role → Outcome → ProtocolState → Type 0
SaveStep w AsReferee o v = IfUp w.referee.up w o v (RefereeSaveStep w o v)
SaveStep w (AsSeat player) o v =
    SeatChanges w player v (λ new. IfUp (seat_in w player).up (seat_in w player) o new
    (SeatSaveStep w.id w.terms player o (seat_in w player) new))
SaveStep w (AsWatcher index) o v = NoParty w o v
