pub mod Kinds
pub mod Tables
pub mod Headers
pub mod NewRows
pub mod Programs
pub mod Drafts
pub mod Calls
pub mod Listings
