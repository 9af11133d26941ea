pub mod Way
pub mod Places
pub mod Zones
pub mod Hook
pub mod Below
pub mod Others
pub mod Grow
pub mod Missing
