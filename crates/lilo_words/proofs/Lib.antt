pub mod CommandReads
pub mod Commands
pub mod PartReads
pub mod Parts
pub mod Ranges
pub mod RunReads
pub mod Runs
