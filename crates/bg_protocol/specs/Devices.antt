-- Links and keepers: what a call may do, and what it comes to.
pub mod Honesty
pub mod Handed
pub mod Plan
pub mod Inboxes
pub mod SentCodes
pub mod MemoryDevices
pub mod DeviceCalls
pub mod LinkCalls
pub mod KeeperCalls
