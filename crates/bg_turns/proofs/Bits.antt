-- The bits of the masks, and what they say of counts and places.
pub mod Single
pub mod ByBytes
pub mod FourBytes
pub mod Marked
pub mod Places
