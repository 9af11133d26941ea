pub mod Clear
pub mod Follow
pub mod Holder
pub mod Map
pub mod Old
pub mod Place
pub mod Zones
