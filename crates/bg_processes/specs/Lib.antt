pub mod LoopResults
pub mod Runs
pub mod Rounds
pub mod Liveness
pub mod RefereeRounds
pub mod SeatRounds
pub mod WatcherRounds
pub mod Instances
