-- A party takes what the network hands it.
use Rattle.std.specs.Prelude.{◌≡◌, ℕ, ◌+◌, List, slice_set}
use Rattle.bg_match.specs.declared.entries.Entry.{Entry}
use Rattle.bg_wire.specs.Entries.Codes.{first_watcher}
use Rattle.bg_wire.specs.Parties.{party_of}
use Rattle.bg_protocol.specs.declared.events.Outcome.{Outcome}
use Rattle.bg_protocol.specs.declared.roles.Role.{Role}
use Rattle.bg_protocol.specs.declared.roles.Role.TheVariants.{Referee as AsReferee, Seat as AsSeat, Watcher as AsWatcher}
use Rattle.bg_protocol.specs.Protocol.FollowerTakeStep.{FollowerTakeStep}
use Rattle.bg_protocol.specs.Protocol.Frames.{IfUp, SeatChanges, AtWatcher}
use Rattle.bg_protocol.specs.Protocol.RefereeTakeStep.{RefereeTakeStep}
use Rattle.bg_protocol.specs.Protocol.State.{ProtocolState, seat_in}

-- The referee answers, or accepts a claim. Of a follower only the record changes.
abbrev pub TakeStep : ProtocolState → Role → ℕ → Outcome → ProtocolState → Type 0
TakeStep w AsReferee word o v = IfUp w.referee.up w o v (RefereeTakeStep w word o v)
TakeStep w (AsSeat player) word o v =
    SeatChanges w player v (λ new. IfUp (seat_in w player).up (seat_in w player) o new
    ((log : List Entry) × FollowerTakeStep w.id w.terms w.sent (party_of player) o (seat_in w player).log log
    × (new ≡ record (seat_in w player) { log = log })))
TakeStep w (AsWatcher index) word o v =
    AtWatcher w index o v (λ old. (new : List Entry)
    × FollowerTakeStep w.id w.terms w.sent (first_watcher + index) o old new
    × (v ≡ record w { watchers = slice_set w.watchers index new }))
