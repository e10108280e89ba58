-- A save in two steps is the event Save.
use Rattle.std.specs.Prelude.{◌≡◌, ℕ, zero, suc, Option, Some, None, Result, Ok, Err}
use Rattle.std.specs.Global.{Vec}
use Rattle.std.proofs.Common.{refl, sym, subst, ◌∙◌}
use Rattle.bg_board.specs.declared.players.Player.{Player}
use Rattle.bg_board.specs.declared.players.Player.TheVariants.{X, O}
use Rattle.bg_wire.specs.Saved.SavedText.{SavedParts}
use Rattle.bg_wire.specs.Saved.Saves.{IsNextSave}
use Rattle.bg_wire.specs.declared.faults.SaveRefusal.{SaveRefusal}
use Rattle.bg_wire.specs.declared.faults.SaveRefusal.TheVariants as save_refusals
use Rattle.bg_wire.specs.declared.saves.slots.Slot.{Slot}
use Rattle.bg_referee.specs.Referee.{referee_after_save}
use Rattle.bg_party.specs.Views.{SeatView, seat_after_save}
use Rattle.bg_protocol.specs.Devices.DeviceCalls.{WritesOnce}
use Rattle.bg_protocol.specs.Devices.KeeperCalls.{BeginsSave, EndsSave, SaveCallsAt, SaveTold, begun}
use Rattle.bg_protocol.specs.Worlds.Calls.{SaveCalls, referee_parts, seat_parts}
use Rattle.bg_protocol.specs.Worlds.TwoSteps.{HostWrites, OtherSavesStay, SaveBegins, SaveEnds, save_under_way, told_next}
use Rattle.bg_protocol.specs.Worlds.UnderWay.{told_by}
use Rattle.bg_protocol.specs.Worlds.Views.{KeeperView, WorldView, seat_core, seat_keeper}
use Rattle.bg_protocol.specs.Protocol.Roles.{role}
use Rattle.bg_protocol.specs.declared.devices.DeviceFault.{DeviceFault}
use Rattle.bg_protocol.specs.declared.events.Outcome.{Outcome}
use Rattle.bg_protocol.specs.declared.nodes.saves.Save.{Save}
use Rattle.bg_protocol.specs.declared.roles.Role.{Role}
use Rattle.bg_protocol.specs.declared.roles.Role.TheVariants as roles
use Rattle.bg_protocol.specs.declared.worlds.World.{World}
use Rattle.bg_protocol.proofs.Seats.{either_order, same_core}

-- ---- at one party, whose core may be of any kind

module _ {C : Type 0} (parts_of : C → SavedParts) (after_save : C → ℕ → C) (honest : Type 0) where
  pub two_steps : (was core : Option C) (save : Save) (answer : Result (Unit {0}) DeviceFault) (old new : KeeperView)
      (o : Outcome) (after : Option C)
      → BeginsSave parts_of was (Ok save) → told_by parts_of was ≡ told_by parts_of core
      → WritesOnce honest old save.slot save.text.items answer new → EndsSave after_save core save.number answer o after
      → SaveCallsAt parts_of after_save honest old core o new after
  two_steps None core save answer old new o after begins same writes ends = absurd (cc begins)
  two_steps (Some c) None save answer old new o after begins same writes ends = absurd ends
  two_steps (Some c) (Some d) save answer old new o after begins same writes ends = at begins.0 begins.1 begins.2
    where
      same_parts : parts_of c ≡ parts_of d
      same_parts = cc same

      at : (next : Result (Slot × ℕ × Vec ℕ) SaveRefusal) → IsNextSave (parts_of c) next → Ok save ≡ begun next
          → SaveCallsAt parts_of after_save honest old (Some d) o new after
      at (Ok n) is e =
          let save_is : save ≡ record { slot = n.0; number = n.1; text = n.2 } = cc e in (
            Ok n,
            subst (λ (p : SavedParts). IsNextSave p (Ok n)) same_parts is,
            (
              answer,
              subst (λ (s : Save). WritesOnce honest old s.slot s.text.items answer new) save_is writes,
              subst (λ (s : Save). SaveTold s.number (after_save d s.number) answer o after) save_is ends,
            ),
          )
      at (Err save_refusals.SavesSpent) is e = absurd (cc e)
      at (Err save_refusals.Memory) is e = absurd (cc e)

  pub no_steps : (core : Option C) (old : KeeperView) (o : Outcome) → BeginsSave parts_of core (Err o)
      → SaveCallsAt parts_of after_save honest old core o old core
  no_steps None old o begins = (cc begins, refl, refl)
  no_steps (Some c) old o begins = at begins.0 begins.1 begins.2
    where
      at : (next : Result (Slot × ℕ × Vec ℕ) SaveRefusal) → IsNextSave (parts_of c) next → Err o ≡ begun next
          → SaveCallsAt parts_of after_save honest old (Some c) o old (Some c)
      at (Ok n) is e = absurd (cc e)
      at (Err save_refusals.SavesSpent) is e = (Err save_refusals.SavesSpent, is, (cc e, refl, refl))
      at (Err save_refusals.Memory) is e = (Err save_refusals.Memory, is, (cc e, refl, refl))

-- ---- at the parties of a world

module _ (honest : Type 0) (save : Save) (answer : Result (Unit {0}) DeviceFault) (o : Outcome) where
  at_referee : (begun old written new : WorldView) → SaveBegins begun roles.Referee (Ok save)
      → told_next begun roles.Referee ≡ told_next old roles.Referee
      → HostWrites honest old roles.Referee save answer written
      → SaveEnds written roles.Referee save.number answer o new → SaveCalls honest old roles.Referee o new
  at_referee begun old written new begins same writes ends =
      let after = subst (λ (w : WorldView). SaveEnds w roles.Referee save.number answer o new) writes.2 ends in (
        writes.0,
        new.referee,
        two_steps referee_parts referee_after_save honest begun.referee old.referee save answer old.referee_keeper
            writes.0 o new.referee begins same writes.1 after.0,
        after.1,
      )

  at_seat : (player : Player) (begun old written new : WorldView) → SaveBegins begun (roles.Seat player) (Ok save)
      → told_next begun (roles.Seat player) ≡ told_next old (roles.Seat player)
      → HostWrites honest old (roles.Seat player) save answer written
      → SaveEnds written (roles.Seat player) save.number answer o new
      → SaveCalls honest old (roles.Seat player) o new
  at_seat player begun old written new begins same writes ends =
      let after = subst (λ (w : WorldView). SaveEnds w (roles.Seat player) save.number answer o new) writes.2 ends in
      let kept = seat_core new player in (
        writes.0,
        kept,
        two_steps seat_parts seat_after_save honest (seat_core begun player) (seat_core old player) save answer
            (seat_keeper old player) writes.0 o kept begins same writes.1
            (subst (λ (c : Option SeatView). EndsSave seat_after_save c save.number answer o kept)
            (same_core old player writes.0) after.0),
        after.1 ∙ either_order old player kept writes.0,
      )

  pub in_world : (party : ℕ) (begun old written new : WorldView) → SaveBegins begun (role party) (Ok save)
      → told_next begun (role party) ≡ told_next old (role party)
      → HostWrites honest old (role party) save answer written
      → SaveEnds written (role party) save.number answer o new → SaveCalls honest old (role party) o new
  in_world zero begun old written new begins same writes ends =
      at_referee begun old written new begins same writes ends
  in_world (suc zero) begun old written new begins same writes ends =
      at_seat X begun old written new begins same writes ends
  in_world (suc (suc zero)) begun old written new begins same writes ends =
      at_seat O begun old written new begins same writes ends
  in_world (suc (suc (suc i))) begun old written new begins same writes ends = absurd writes

-- where nothing is begun
pub none_in_world : (honest : Type 0) (party : ℕ) (old : WorldView) (o : Outcome) → SaveBegins old (role party) (Err o)
    → SaveCalls honest old (role party) o old
none_in_world honest zero old o begins = (
  old.referee_keeper,
  old.referee,
  no_steps referee_parts referee_after_save honest old.referee old.referee_keeper o
      begins,
  refl,
)
none_in_world honest (suc zero) old o begins =
    (old.x_keeper, old.x, no_steps seat_parts seat_after_save honest old.x old.x_keeper o begins, refl)
none_in_world honest (suc (suc zero)) old o begins =
    (old.o_keeper, old.o, no_steps seat_parts seat_after_save honest old.o old.o_keeper o begins, refl)
none_in_world honest (suc (suc (suc i))) old o begins = (cc begins, refl)

-- what stays under way at all parties but one, party by party
pub others_stay : {L K : Type 0} (own : Role) (old new : World L K) → OtherSavesStay own old new → (other : Role)
    → (other ≡ own → ⊥) → save_under_way new other ≡ save_under_way old other
others_stay own old new h roles.Referee differs = h.referee (λ e. differs (sym e))
others_stay own old new h (roles.Seat X) differs = h.x (λ e. differs (sym e))
others_stay own old new h (roles.Seat O) differs = h.o (λ e. differs (sym e))
others_stay own old new h (roles.Watcher index) differs = refl
