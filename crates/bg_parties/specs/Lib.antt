pub mod Party
pub mod Calls
