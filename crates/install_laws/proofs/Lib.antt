pub mod Answered
pub mod Stopped
pub mod Headline
pub mod Outside
pub mod Planned
pub mod Writes
pub mod ClearTest
