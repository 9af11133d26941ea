pub mod Sectors
pub mod Replaced
pub mod Reading
