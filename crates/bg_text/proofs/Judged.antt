-- Lemmas of inputs and of what is judged of them.
pub mod Courses
pub mod FineTranscripts
pub mod HeardBytes
pub mod InputLines
pub mod LengthLines
pub mod LineLists
pub mod OneJudgement
pub mod PartRead
pub mod ReadLines
pub mod ReadInputs
pub mod ShortLines
pub mod WholeInputs
pub mod WrittenLines
