pub mod Found
pub mod Paths
pub mod Seen
pub mod Facts
pub mod Count
pub mod Names
