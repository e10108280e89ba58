pub mod Given
pub mod Places
pub mod Links
