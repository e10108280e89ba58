pub mod Rolls
pub mod Secrets
