-- Saved texts, and the slots that have them.
pub mod SavedLayouts
pub mod SavedText
pub mod SavedReading
pub mod Saves
pub mod Restoring
pub mod SlotLaws
pub mod SlotReading
pub mod WrittenLaws
