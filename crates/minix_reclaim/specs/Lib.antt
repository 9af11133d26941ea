pub mod Cleared
pub mod Laws
pub mod Bitmap
pub mod Bits
pub mod Frees
pub mod Reclaim
