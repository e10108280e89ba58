-- A save of a party of a world in two steps: it is begun, the host writes, and it is ended.
use Rattle.std.specs.Prelude.{◌≡◌, ℕ, Option, None, Result, Err}
use Rattle.bg_board.specs.declared.players.Player.TheVariants.{X, O}
use Rattle.bg_wire.specs.Saved.SavedText.{SavedParts}
use Rattle.bg_referee.specs.Referee.{referee_after_save}
use Rattle.bg_party.specs.Views.{seat_after_save}
use Rattle.bg_protocol.specs.Devices.DeviceCalls.{WritesOnce}
use Rattle.bg_protocol.specs.Devices.KeeperCalls.{BeginsSave, EndsSave}
use Rattle.bg_protocol.specs.Worlds.Calls.{referee_parts, seat_parts}
use Rattle.bg_protocol.specs.Worlds.UnderWay.{told_by}
use Rattle.bg_protocol.specs.Worlds.Views.{KeeperView, WorldView, seat_core, seat_keeper, with_seat_core, with_seat_keeper}
use Rattle.bg_protocol.specs.Protocol.Roles.{role}
use Rattle.bg_protocol.specs.declared.devices.DeviceFault.{DeviceFault}
use Rattle.bg_protocol.specs.declared.events.Event.{Event}
use Rattle.bg_protocol.specs.declared.events.Event.TheVariants as events
use Rattle.bg_protocol.specs.declared.events.Outcome.{Outcome}
use Rattle.bg_protocol.specs.declared.events.Outcome.TheVariants as outcomes
use Rattle.bg_protocol.specs.declared.nodes.saves.Save.{Save}
use Rattle.bg_protocol.specs.declared.roles.Role.{Role}
use Rattle.bg_protocol.specs.declared.roles.Role.TheVariants as roles
use Rattle.bg_protocol.specs.declared.worlds.World.{World}

-- the save of a party that is under way
abbrev pub save_under_way : {L K : Type 0} → World L K → Role → Option ℕ
save_under_way w roles.Referee = w.referee.under_way
save_under_way w (roles.Seat X) = w.x.under_way
save_under_way w (roles.Seat O) = w.o.under_way
save_under_way w (roles.Watcher index) = None

-- the saves of all parties but this one stay as they were
pub record OtherSavesStay {L K : Type 0} (own : Role) (old new : World L K) : Type 0 where
  pub referee : (own ≡ roles.Referee → ⊥) → new.referee.under_way ≡ old.referee.under_way
  pub x : (own ≡ roles.Seat X → ⊥) → new.x.under_way ≡ old.x.under_way
  pub o : (own ≡ roles.Seat O → ⊥) → new.o.under_way ≡ old.o.under_way

-- the party at which the event happens
abbrev pub role_of : Event → Role
role_of (events.Due word) = roles.Referee
role_of (events.Take party pick word) = role party
role_of (events.Choose player action) = roles.Seat player
role_of (events.Save party) = role party
role_of (events.Tick party) = role party
role_of (events.Restart party) = role party

-- what the next save of the party tells, where it is up
abbrev pub told_next : WorldView → Role → Option SavedParts
told_next w roles.Referee = told_by referee_parts w.referee
told_next w (roles.Seat player) = told_by seat_parts (seat_core w player)
told_next w (roles.Watcher index) = None

-- the save of a party is begun: this is to be written; or the event comes to this
abbrev pub SaveBegins : WorldView → Role → Result Save Outcome → Type 0
SaveBegins w roles.Referee result = BeginsSave referee_parts w.referee result
SaveBegins w (roles.Seat player) result = BeginsSave seat_parts (seat_core w player) result
SaveBegins w (roles.Watcher index) result = result ≡ Err outcomes.NoSuchParty

-- the host writes it to the party's keeper, which answers
abbrev pub HostWrites : Type 0 → WorldView → Role → Save → Result (Unit {0}) DeviceFault → WorldView → Type 0
HostWrites honest w roles.Referee save answer v =
    (kept : KeeperView) × WritesOnce honest w.referee_keeper save.slot save.text.items answer kept
    × (v ≡ record w { referee_keeper = kept })
HostWrites honest w (roles.Seat player) save answer v =
    (kept : KeeperView) × WritesOnce honest (seat_keeper w player) save.slot save.text.items answer kept
    × (v ≡ with_seat_keeper w player kept)
HostWrites honest w (roles.Watcher index) save answer v = ⊥

-- it is ended with this answer; what the keeper has stays
abbrev pub SaveEnds : WorldView → Role → ℕ → Result (Unit {0}) DeviceFault → Outcome → WorldView → Type 0
SaveEnds w roles.Referee save answer o v =
    EndsSave referee_after_save w.referee save answer o v.referee × (v ≡ record w { referee = v.referee })
SaveEnds w (roles.Seat player) save answer o v =
    EndsSave seat_after_save (seat_core w player) save answer o (seat_core v player)
    × (v ≡ with_seat_core w player (seat_core v player))
SaveEnds w (roles.Watcher index) save answer o v = ⊥
