pub mod Coding
pub mod Distances
