pub mod Offering
pub mod Judgings
