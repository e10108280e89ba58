pub mod Spelling
pub mod TypedWords
pub mod Meanings
pub mod Marks
pub mod TypedFaults
pub mod FaultWords
pub mod Laws
