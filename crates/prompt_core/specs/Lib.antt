pub mod Asked
pub mod Decided
pub mod GatheredView
pub mod Reader
pub mod Run
pub mod Short
pub mod Steps
pub mod View
