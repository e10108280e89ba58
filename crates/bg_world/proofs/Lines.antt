-- Lemmas of the texts of worlds.
pub mod Digits
pub mod LineParts
pub mod EventKinds
pub mod EventTexts
pub mod EventShapes
pub mod EventFaults
pub mod OutcomeReads
pub mod OutcomeTexts
pub mod ScriptLines
