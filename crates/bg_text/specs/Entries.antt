-- The lines of entries and actions.
pub mod EntryShape
pub mod EntryText
pub mod Lines
pub mod Pairs
pub mod Words
