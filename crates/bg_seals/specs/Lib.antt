pub mod Hmac
pub mod Hashers
pub mod Datagrams
pub mod Keys
