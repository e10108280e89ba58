pub mod Protocol
pub mod Deliveries
pub mod Steps
pub mod ReachedWorlds
pub mod Outcomes
pub mod Seats
pub mod TwoSteps
