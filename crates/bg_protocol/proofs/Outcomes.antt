-- That an event between two worlds has one outcome.
pub mod OneOutcome
pub mod OneSend
pub mod OneTake
pub mod OneRestart
pub mod OneWorld
