pub mod Meaning
pub mod Outcome
pub mod Serving
pub mod Ranges
