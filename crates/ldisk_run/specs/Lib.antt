pub mod Laws
pub mod Left
pub mod Listing
pub mod Made
pub mod Pieces
pub mod Run
pub mod View
