pub mod Mapped
pub mod Needed
pub mod Places
