pub mod Standings
pub mod Rules
pub mod Zeros
pub mod Duals
pub mod Claims
pub mod Searches
pub mod Readings
