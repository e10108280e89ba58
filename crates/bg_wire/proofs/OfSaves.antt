-- Lemmas of saved texts and of slots.
pub mod SavedClaims
pub mod SavedEntries
pub mod SavedFaults
pub mod SavedFrontTexts
pub mod SavedFronts
pub mod SavedLaws
pub mod Loading
pub mod Replaying
pub mod SlotTurns
pub mod OneText
pub mod DecidedSlots
