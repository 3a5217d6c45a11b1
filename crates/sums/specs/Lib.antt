pub mod Sums
pub mod Duality
