pub mod Apart
pub mod Faults
pub mod Guarded
pub mod Names
pub mod Own
