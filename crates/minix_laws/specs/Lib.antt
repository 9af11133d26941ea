pub mod RootVolume
pub mod Plain
pub mod FindNames
pub mod Pointers
