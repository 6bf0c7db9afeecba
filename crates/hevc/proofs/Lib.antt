pub mod Terms
pub mod Places
pub mod Logs
pub mod TwoPasses
pub mod Usable
