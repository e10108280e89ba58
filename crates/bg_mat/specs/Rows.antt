-- The rows of a match file, and what stands in them.
pub mod Words
pub mod Numbers
pub mod Headings
pub mod Cells
pub mod CellTexts
pub mod RowTexts
pub mod RowFaults
