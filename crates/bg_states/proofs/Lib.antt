pub mod Lines
pub mod OneText
