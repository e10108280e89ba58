pub mod Protocol
pub mod Promises
pub mod Devices
pub mod Worlds
pub mod FaultWords
