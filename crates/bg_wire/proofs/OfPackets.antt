-- Lemmas of packets.
pub mod PacketBodies
pub mod PacketFaults
pub mod PacketLaws
