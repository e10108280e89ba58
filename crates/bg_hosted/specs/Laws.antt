-- What holds of hosted matches over honest keepers.
use Rattle.std.specs.Prelude.{◌≡◌, ⊤, Some}
use Rattle.bg_match.specs.Match.{Log}
use Rattle.bg_protocol.specs.Promises.Agreement.{IsPrefix}
use Rattle.bg_protocol.specs.Protocol.State.{saved_log}
use Rattle.bg_protocol.specs.Worlds.Views.{WorldView}
use Rattle.bg_protocol.specs.Worlds.WorldState.{IsReachedWorld, protocol_state}
use Rattle.bg_hosted.specs.Going.{GoesOn}
use Rattle.bg_hosted.specs.HostedMatches.{told_of}

-- what goes on in a world that a run leads to leads to one again
abbrev pub StaysReached : Type 0
StaysReached = (old new : WorldView) → GoesOn ⊤ old new → IsReachedWorld old → IsReachedWorld new

-- what everybody is told is a prefix of what the referee has saved
abbrev pub TellsSavedAlone : Type 0
TellsSavedAlone = (w : WorldView) (before : IsReachedWorld w) (log : Log) → told_of w ≡ Some log
    → IsPrefix log.entries (saved_log (protocol_state w before.restorable))
