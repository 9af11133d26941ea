pub mod Gives
pub mod View
