-- What datagrams show.
use Rattle.std.specs.Prelude.{◌≡◌, ℕ, ◌+◌, ◌≤◌, Some, List, slice_get}
use Rattle.bg_match.specs.declared.entries.Entry.{Entry}
use Rattle.bg_match.specs.declared.limits.Rules.{Rules}
use Rattle.bg_wire.specs.declared.packets.Packet.TheVariants as packet
use Rattle.bg_protocol.specs.Protocol.Datagrams.{WasSent}
use Rattle.bg_protocol.specs.Protocol.State.{ProtocolState}

-- no datagram ever sent shows an entry under a number above that of the last saved one
abbrev pub ShowsSavedAlone : ProtocolState → Type 0
ShowsSavedAlone w =
    (to id : ℕ) (rules : Rules) (start : ℕ) (list : List Entry) (i : ℕ) (e : Entry)
    → WasSent w.sent to (packet.Entries id rules start list) → slice_get list i ≡ Some e → start + i ≤ w.referee.saved
