pub mod Agreement
pub mod Counts
