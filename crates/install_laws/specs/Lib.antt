pub mod Answered
pub mod Boots
pub mod Headline
pub mod Stopped
pub mod InstallVerdict
pub mod Planned
pub mod Writes
pub mod ClearTest
