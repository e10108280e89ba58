-- The fields of layouts, and entries and actions in bytes.
pub mod Codes
pub mod EntryText
pub mod EntryReading
pub mod Fields
pub mod Reading
pub mod RulesReading
