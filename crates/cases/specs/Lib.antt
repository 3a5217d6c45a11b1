pub mod Samples
pub mod Listing
