-- Lemmas of writing a match file, and of reading what was written.
pub mod PlainTexts
pub mod WrittenCells
pub mod WrittenRows
pub mod WrittenFiles
pub mod Retold
pub mod RetoldWins
pub mod RetoldSteps
pub mod RetoldEntries
pub mod RetoldRecords
