pub mod Lawful
pub mod Sample
pub mod Order
