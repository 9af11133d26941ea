pub mod Chosen
pub mod Directory
pub mod Growth
pub mod Suits
pub mod Taken
pub mod View
