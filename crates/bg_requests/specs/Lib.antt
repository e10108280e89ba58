pub mod Seats
pub mod Targets
pub mod Messages
pub mod Orders
