-- A party gives up what it holds, and begins again from what its slots restore.
use Rattle.std.specs.Prelude.{◌≡◌, Bool, true, false, [], slice_set}
use Rattle.bg_protocol.specs.declared.events.Outcome.{Outcome}
use Rattle.bg_protocol.specs.declared.events.Outcome.TheVariants as outcomes
use Rattle.bg_protocol.specs.declared.roles.Role.{Role}
use Rattle.bg_protocol.specs.declared.roles.Role.TheVariants.{Referee as AsReferee, Seat as AsSeat, Watcher as AsWatcher}
use Rattle.bg_protocol.specs.Protocol.Frames.{SeatChanges, AtWatcher}
use Rattle.bg_protocol.specs.Protocol.State.{ProtocolState, restored_referee, restored_seat, seat_in}

-- a restart leaves the party up, or down where the slots or memory failed
abbrev pub RestartsTo : Outcome → (Bool → Type 0) → Type 0
RestartsTo outcomes.Restarted Becomes = Becomes true
RestartsTo (outcomes.RestoreFault cause) Becomes = Becomes false
RestartsTo outcomes.Memory Becomes = Becomes false
RestartsTo _ Becomes = ⊥

-- The party has what its slots restore, whether it was up or down; a watcher has the empty record.
abbrev pub RestartStep : ProtocolState → Role → Outcome → ProtocolState → Type 0
RestartStep w AsReferee o v =
    RestartsTo o (λ up. v ≡ record w { referee = restored_referee w.referee.slots w.referee.restorable up })
RestartStep w (AsSeat player) o v =
    SeatChanges w player v (λ new. RestartsTo o
    (λ up. new ≡ restored_seat (seat_in w player).slots (seat_in w player).restorable up))
RestartStep w (AsWatcher index) o v =
    AtWatcher w index o v (λ log. (o ≡ outcomes.Restarted)
    × (v ≡ record w { watchers = slice_set w.watchers index [] }))
