-- What is written of a standing and of a record.
pub mod BoardText
pub mod TermsText
pub mod Transcript
