pub mod Choice
pub mod FileZones
pub mod Growth
pub mod Places
pub mod Wish
