pub mod WorkedTexts
pub mod WorkedPasses
pub mod Spelling
pub mod Judged
