pub mod Queued
pub mod Claimed
pub mod Going
pub mod Whose
pub mod Told
pub mod Lives
pub mod NextLives
