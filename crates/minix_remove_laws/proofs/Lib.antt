pub mod Held
pub mod Released
pub mod Links
pub mod Files
