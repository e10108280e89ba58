pub mod Bits
pub mod Turns
pub mod PositionIds
pub mod MatchIds
pub mod Xgids
pub mod Laws
