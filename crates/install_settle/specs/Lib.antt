pub mod At
pub mod Found
pub mod Settles
pub mod Steps
pub mod Tidied
pub mod Tidies
