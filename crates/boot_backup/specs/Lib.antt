pub mod Restore
pub mod View
