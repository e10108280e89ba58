pub mod Limits
pub mod Entries
pub mod Boards
pub mod Judge
