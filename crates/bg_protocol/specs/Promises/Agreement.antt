-- That all parties agree.
use Rattle.std.specs.Prelude.{◌≡◌, ℕ, ◌<◌, Some, List, ◌++◌}
use Rattle.bg_match.specs.declared.entries.Entry.{Entry}
use Rattle.bg_match.specs.declared.limits.Rules.{Rules}
use Rattle.bg_wire.specs.Runs.{IsRun}
use Rattle.bg_wire.specs.declared.packets.Packet.TheVariants as packet
use Rattle.bg_protocol.specs.Protocol.Datagrams.{WasSent}
use Rattle.bg_protocol.specs.Protocol.State.{ProtocolState, saved_log, log_of}

-- the second list begins with the first
abbrev pub IsPrefix : List Entry → List Entry → Type 0
IsPrefix xs ys = (rest : List Entry) × (xs ++ rest ≡ ys)

-- each follower's record is a prefix of what the referee has saved, that is one of its record, and
-- each datagram of entries that was ever sent tells a run of it
pub record Agreement (w : ProtocolState) : Type 0 where
  pub saved : IsPrefix (saved_log w) w.referee.log
  pub followers : (party : ℕ) (log : List Entry) → 0 < party → log_of w party ≡ Some log → IsPrefix log (saved_log w)
  pub datagrams : (to id : ℕ) (rules : Rules) (start : ℕ) (list : List Entry)
      → WasSent w.sent to (packet.Entries id rules start list) → IsRun (saved_log w) start list
