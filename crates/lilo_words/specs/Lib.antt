pub mod Laws
pub mod Options
pub mod Run
pub mod View
pub mod Wrong
