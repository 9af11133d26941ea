pub mod Asking
pub mod Laws
pub mod Message
pub mod Tale
