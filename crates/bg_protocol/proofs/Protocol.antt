-- Lemmas of the protocol by itself.
pub mod Lists
pub mod Saving
pub mod Invariant
pub mod Rows
pub mod Growth
pub mod Reached
pub mod EarlyEntries
pub mod RefereeRefusals
pub mod FollowerRefusals
pub mod WorkedRuns
