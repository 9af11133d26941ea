pub mod Accepted
pub mod Boots
pub mod Kept
pub mod Map
pub mod Places
pub mod Runs
pub mod Sectors
