pub mod Ranges
pub mod View
