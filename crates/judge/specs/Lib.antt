pub mod Problems
pub mod Verdicts
pub mod Texts
pub mod Quantities
pub mod Lines
