-- Which status a call of a party answers.
use Rattle.bg_wire.specs.declared.faults.RestoreRefusal.{RestoreRefusal}
use Rattle.bg_wire.specs.declared.faults.RestoreRefusal.TheVariants as restore
use Rattle.bg_wire.specs.declared.faults.SaveRefusal.{SaveRefusal}
use Rattle.bg_wire.specs.declared.faults.SaveRefusal.TheVariants as save
use Rattle.bg_referee.specs.declared.outcomes.DueFault.{DueFault}
use Rattle.bg_referee.specs.declared.outcomes.DueFault.TheVariants as due
use Rattle.bg_party.specs.declared.outcomes.ChooseFault.{ChooseFault}
use Rattle.bg_party.specs.declared.outcomes.ChooseFault.TheVariants as choose
use Rattle.bg_parties.specs.declared.faults.OpenFault.{OpenFault}
use Rattle.bg_parties.specs.declared.faults.OpenFault.TheVariants.{LengthOutOfRange, Restore}
use Rattle.bg_parties.specs.declared.faults.RoleFault.{RoleFault}
use Rattle.bg_parties.specs.declared.faults.RoleFault.TheVariants.{OtherRole, Core}
use Rattle.bg_c.specs.declared.statuses.Status.{Status}
use Rattle.bg_c.specs.declared.statuses.Status.TheVariants as status

-- where slots restore nothing
abbrev pub restore_status : RestoreRefusal → Status
restore_status restore.Damaged = status.Damaged
restore_status restore.WrongMatch = status.WrongMatch
restore_status restore.Memory = status.Memory

-- where a party is not opened
abbrev pub open_status : OpenFault → Status
open_status LengthOutOfRange = status.BadArgument
open_status (Restore why) = restore_status why

-- where a call is for another role, or the core refuses it with what has this status
abbrev pub role_status : {F : Type 0} → (F → Status) → RoleFault F → Status
role_status status_of OtherRole = status.WrongParty
role_status status_of (Core why) = status_of why

-- where the referee adds nothing
abbrev pub due_status : DueFault → Status
due_status due.NothingDue = status.NotDue
due_status due.WordRefused = status.WordRefused
due_status due.EqualOpening = status.WordRefused
due_status due.RecordFull = status.NotDue
due_status due.Memory = status.Memory

-- where a seat claims nothing
abbrev pub choose_status : ChooseFault → Status
choose_status choose.NotYourTurn = status.NotYourTurn
choose_status choose.AlreadyClaimed = status.AlreadyClaimed
choose_status (choose.Illegal why) = status.Illegal

-- where there is nothing to save
abbrev pub save_status : SaveRefusal → Status
save_status save.SavesSpent = status.SavesSpent
save_status save.Memory = status.Memory
