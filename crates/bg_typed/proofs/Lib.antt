pub mod Orders
pub mod ReadWords
pub mod FoundTurns
pub mod Spellings
pub mod PrintedTurns
pub mod OneMeaning
pub mod OneRefusal
mod WorkedTexts
