-- That restoring gives a party back what its slots restore.
use Rattle.std.specs.Prelude.{ℕ, Option, Result}
use Rattle.bg_board.specs.declared.players.Player.{Player}
use Rattle.bg_match.specs.Terms.{Terms}
use Rattle.bg_wire.specs.Entries.Codes.{referee}
use Rattle.bg_wire.specs.Parties.{party_of}
use Rattle.bg_wire.specs.Saved.Restoring.{Restores}
use Rattle.bg_wire.specs.Saved.SavedText.{SavedParts}
use Rattle.bg_wire.specs.Saved.SlotLaws.{Slots, GivesBack}
use Rattle.bg_wire.specs.declared.faults.RestoreRefusal.{RestoreRefusal}
use Rattle.bg_wire.specs.declared.saves.Saved.{Saved}
use Rattle.bg_protocol.specs.Protocol.State.{ProtocolState, seat_in}

-- whatever `bg_wire::restore` answers to this party of the match, of the bytes of these slots: it
-- is this, or memory was wanted
abbrev pub IsGivenBack : ℕ → Terms → ℕ → Slots → Option SavedParts → Type 0
IsGivenBack id terms party slots restorable =
    (answer : Result (Option Saved) RestoreRefusal) → Restores slots.zero slots.one party id terms answer
    → GivesBack restorable answer

-- of the slots of each party that saves, what the state says that they restore is given back
pub record AreSlotsGivenBack (w : ProtocolState) : Type 0 where
  pub referee : IsGivenBack w.id w.terms referee w.referee.slots w.referee.restorable
  pub seats : (player : Player)
      → IsGivenBack w.id w.terms (party_of player) (seat_in w player).slots (seat_in w player).restorable
