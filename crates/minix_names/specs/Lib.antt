pub mod Component
pub mod Ends
pub mod Laws
pub mod Places
pub mod View
