pub mod Ring
pub mod Totals
pub mod Dual
