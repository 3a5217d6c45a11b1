pub mod Sides
pub mod Denials
pub mod Numbers
pub mod Fractions
pub mod Lists
pub mod Points
pub mod Reading
pub mod Meaning
