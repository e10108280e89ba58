-- The texts of worlds.
pub mod EventText
pub mod EventLines
pub mod OutcomeText
pub mod FaultWords
pub mod FinalText
pub mod ScriptText
pub mod Scripts
