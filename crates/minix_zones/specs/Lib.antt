pub mod Held
pub mod Laws
pub mod Sectors
pub mod View
pub mod Volume
pub mod Walk
