pub mod SomeTurn
pub mod AutoActions
pub mod Schedules
pub mod PlayingParts
