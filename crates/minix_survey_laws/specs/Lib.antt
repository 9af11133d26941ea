pub mod Survey
pub mod Count
pub mod Laws
