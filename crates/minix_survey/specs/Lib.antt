pub mod Findings
pub mod Sound
pub mod Step
pub mod Tables
pub mod View
