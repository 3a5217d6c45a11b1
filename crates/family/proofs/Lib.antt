pub mod Bits
pub mod Casts
pub mod Scans
