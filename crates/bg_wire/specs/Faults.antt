-- What each fault says of the bytes, in the words of the layout.
use Rattle.std.specs.Prelude.{◌≢◌, ℕ, List}
use Rattle.bg_wire.specs.Entries.Codes.{magic_offset, version_offset, kind_offset}
use Rattle.bg_wire.specs.Texts.{HasMore, IsCut, IsWrongAt}
use Rattle.bg_wire.specs.Packets.PacketText.{IsText, packet_width}
use Rattle.bg_wire.specs.Saved.SavedText.{IsLayoutOf, IsIllegalAt, HasEntries, saved_width}
use Rattle.bg_wire.specs.declared.faults.WireFault.{WireFault}
use Rattle.bg_wire.specs.declared.faults.WireFault.TheVariants as wire
use Rattle.bg_wire.specs.declared.faults.LoadFault.{LoadFault}
use Rattle.bg_wire.specs.declared.faults.LoadFault.TheVariants as load

-- why the bytes are no packet's text. Three fields have faults of their own
abbrev pub IsWireFault : WireFault → List ℕ → Type 0
IsWireFault wire.Short bytes = IsCut IsText packet_width bytes
IsWireFault wire.Magic bytes = IsWrongAt IsText packet_width bytes magic_offset
IsWireFault wire.Version bytes = IsWrongAt IsText packet_width bytes version_offset
IsWireFault wire.Kind bytes = IsWrongAt IsText packet_width bytes kind_offset
IsWireFault (wire.Field at) bytes =
    (at ≢ magic_offset) × (at ≢ version_offset) × (at ≢ kind_offset) × IsWrongAt IsText packet_width bytes at
IsWireFault wire.Extra bytes = HasMore IsText bytes

-- why the bytes are no saved text, or are not loaded. The first field has a fault of its own
abbrev pub IsLoadFault : LoadFault → List ℕ → Type 0
IsLoadFault load.Short bytes = IsCut IsLayoutOf saved_width bytes
IsLoadFault load.Magic bytes = IsWrongAt IsLayoutOf saved_width bytes magic_offset
IsLoadFault (load.Field at) bytes = (at ≢ magic_offset) × IsWrongAt IsLayoutOf saved_width bytes at
IsLoadFault load.Extra bytes = HasMore IsLayoutOf bytes
IsLoadFault (load.Illegal n) bytes = IsIllegalAt n bytes
IsLoadFault load.Memory bytes = HasEntries bytes
