pub mod Names
pub mod Room
pub mod Making
