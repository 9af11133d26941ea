pub mod Found
pub mod Target
pub mod Released
pub mod Removed
pub mod Moves
pub mod Renamed
pub mod Replaced
