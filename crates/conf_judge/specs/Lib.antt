pub mod View
pub mod Wanted
