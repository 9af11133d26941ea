pub mod Laws
pub mod Reader
pub mod Run
pub mod View
