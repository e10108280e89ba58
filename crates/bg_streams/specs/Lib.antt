pub mod Devices
pub mod DeviceParts
pub mod Transfers
pub mod EngineFault
pub mod FaultWords
