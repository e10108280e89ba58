pub mod Words
pub mod AutoAction
pub mod Attempts
pub mod Schedule
pub mod Rounds
pub mod RoundResults
pub mod Simulating
pub mod FaultWords
