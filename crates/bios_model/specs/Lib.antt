pub mod Held
pub mod Keys
pub mod Machine
pub mod Memory
pub mod Reads
pub mod Writes
