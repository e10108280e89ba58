use Rattle.bg_processes.proofs.RefereeInstance.{referee_is_instance}
use Rattle.bg_processes.proofs.SeatInstance.{seat_is_instance}
use Rattle.bg_processes.proofs.WatcherInstance.{watcher_is_instance}
use Rattle.bg_processes.proofs.processes.laws.processes_are_instances.Goals as goal

pub returns : goal.returns
returns c = record { referee = referee_is_instance; seat = seat_is_instance; watcher = watcher_is_instance }
