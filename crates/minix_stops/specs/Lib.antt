pub mod Laws
pub mod Small
