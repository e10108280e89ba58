pub mod OfReading
pub mod OfWriting
