-- What holds of the faults of bytes: each is proved.
use Rattle.std.specs.Prelude.{◌≡◌, ◌≢◌, ℕ, List}
use Rattle.bg_wire.specs.Packets.PacketText.{IsText}
use Rattle.bg_wire.specs.Saved.SavedText.{SavedParts, IsSavedText}
use Rattle.bg_wire.specs.Faults.{IsWireFault, IsLoadFault}
use Rattle.bg_wire.specs.declared.packets.Packet.{Packet}
use Rattle.bg_wire.specs.declared.faults.WireFault.{WireFault}
use Rattle.bg_wire.specs.declared.faults.LoadFault.{LoadFault}
use Rattle.bg_wire.specs.declared.faults.LoadFault.TheVariants.{Memory}

-- what is wrong with bytes as a packet's text is one thing
abbrev pub HaveOneWireFault : Type 0
HaveOneWireFault = (bytes : List ℕ) (f g : WireFault) → IsWireFault f bytes → IsWireFault g bytes → f ≡ g

-- with a packet's text nothing is wrong
abbrev pub PacketsHaveNoFault : Type 0
PacketsHaveNoFault = (p : Packet) (bytes : List ℕ) (f : WireFault) → IsText p bytes → IsWireFault f bytes → ⊥

-- want of memory aside, what is wrong with bytes as a saved text is one thing
abbrev pub HaveOneLoadFault : Type 0
HaveOneLoadFault = (bytes : List ℕ) (f g : LoadFault) → f ≢ Memory → g ≢ Memory
    → IsLoadFault f bytes → IsLoadFault g bytes → f ≡ g

-- and with a saved text nothing is wrong
abbrev pub SavedTextsHaveNoFault : Type 0
SavedTextsHaveNoFault = (p : SavedParts) (bytes : List ℕ) (f : LoadFault) → f ≢ Memory
    → IsSavedText p bytes → IsLoadFault f bytes → ⊥
