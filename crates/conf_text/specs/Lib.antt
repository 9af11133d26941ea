pub mod Laws
pub mod View
