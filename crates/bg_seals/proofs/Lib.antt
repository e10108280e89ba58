pub mod Bits
pub mod Sealing
pub mod WorkedCodes
pub mod WorkedSeals
