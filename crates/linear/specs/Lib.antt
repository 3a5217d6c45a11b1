pub mod Costs
pub mod Bounds
pub mod Laws
pub mod Balances
