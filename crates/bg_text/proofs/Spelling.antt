-- Lemmas of the lines of entries and actions.
pub mod ActionLines
pub mod ActionTexts
pub mod DiceTexts
pub mod EntryLines
pub mod EntryTexts
pub mod MoveLines
pub mod Moves
pub mod Numbers
pub mod WrittenNumbers
pub mod PairTexts
pub mod Splits
pub mod Starts
pub mod TwoWords
