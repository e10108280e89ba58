pub mod CutLines
pub mod HeldFiles
pub mod LineAt
pub mod SameFronts
mod MatchFileVerdicts
mod TranscriptVerdicts
mod MatchFileRows
mod TranscriptRows
