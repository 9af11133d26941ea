pub mod Chain
pub mod Gives
pub mod Laws
pub mod Listed
pub mod Names
pub mod View
