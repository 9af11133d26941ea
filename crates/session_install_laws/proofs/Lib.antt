pub mod Looked
pub mod Mapped
pub mod Committed
pub mod Runs
