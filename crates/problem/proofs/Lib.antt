pub mod Cells
pub mod Readings
pub mod Rows
