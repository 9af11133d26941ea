pub mod Laws
pub mod View
pub mod Whole
pub mod Machine
