-- A save that a node begins and ends is the save of that node.
use Rattle.std.specs.Prelude.{◌≡◌, Result, Ok}
use Rattle.std.proofs.Common.{refl, subst}
use Rattle.bg_party.specs.Views.{seat_after_save}
use Rattle.bg_referee.specs.Referee.{referee_after_save}
use Rattle.bg_protocol.specs.Devices.DeviceCalls.{WritesOnce}
use Rattle.bg_protocol.specs.Devices.KeeperCalls.{BeginsSave}
use Rattle.bg_protocol.specs.Worlds.Calls.{referee_parts, seat_parts}
use Rattle.bg_protocol.specs.Worlds.Nodes.{RefereeNodeEndsSave, RefereeNodeSaves, RefereeNodeView}
use Rattle.bg_protocol.specs.Worlds.Nodes.{SeatNodeEndsSave, SeatNodeSaves, SeatNodeView}
use Rattle.bg_protocol.specs.Worlds.Views.{KeeperView}
use Rattle.bg_protocol.specs.declared.devices.DeviceFault.{DeviceFault}
use Rattle.bg_protocol.specs.declared.events.Outcome.{Outcome}
use Rattle.bg_protocol.specs.declared.nodes.saves.Save.{Save}
use Rattle.bg_protocol.proofs.TwoSteps.{two_steps}

module _ (honest : Type 0) (old new : KeeperView) (save : Save) (answer : Result (Unit {0}) DeviceFault) (o : Outcome) where
  pub referee_saves : (node begun after : RefereeNodeView) → begun ≡ node → BeginsSave referee_parts node.core (Ok save)
      → WritesOnce honest old save.slot save.text.items answer new → RefereeNodeEndsSave begun save.number answer o after → RefereeNodeSaves honest old node o new after
  referee_saves node begun after same begins writes ends =
      let told = subst (λ (n : RefereeNodeView). RefereeNodeEndsSave n save.number answer o after) same ends in
      (two_steps referee_parts referee_after_save honest node.core node.core save answer old new o after.core begins refl writes told.0, told.1)

  pub seat_saves : (node begun after : SeatNodeView) → begun ≡ node → BeginsSave seat_parts node.core (Ok save)
      → WritesOnce honest old save.slot save.text.items answer new → SeatNodeEndsSave begun save.number answer o after → SeatNodeSaves honest old node o new after
  seat_saves node begun after same begins writes ends =
      let told = subst (λ (n : SeatNodeView). SeatNodeEndsSave n save.number answer o after) same ends in
      (two_steps seat_parts seat_after_save honest node.core node.core save answer old new o after.core begins refl writes told.0, told.1)
