pub mod Acts
pub mod Named
pub mod Total
