pub mod Sums
pub mod Blocks
pub mod Rounding
pub mod Computed
