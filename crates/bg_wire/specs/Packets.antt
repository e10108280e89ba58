-- Packets in bytes.
pub mod PacketText
pub mod PacketReading
