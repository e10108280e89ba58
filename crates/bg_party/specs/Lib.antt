pub mod Window
pub mod Retry
pub mod Views
pub mod Learns
pub mod Takes
pub mod Claims
pub mod FaultWords
