-- What the judge says of an input.
pub mod Hearing
pub mod Judging
pub mod Reading
pub mod Reason
pub mod Transcripts
