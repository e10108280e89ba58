pub mod Queues
pub mod QueueLinks
pub mod Going
pub mod HostedMatches
pub mod Acting
pub mod Lives
pub mod Laws
