pub mod Numbers
pub mod Texts
pub mod Places
pub mod Inverses
pub mod Sides
pub mod Lengths
pub mod Fields
mod WorkedIds
pub mod Read
pub mod Points
