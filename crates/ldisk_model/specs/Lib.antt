pub mod MinixFormat
pub mod Waste
pub mod Laid
pub mod Arguments
pub mod DiskTable
pub mod FileVerdict
pub mod Verdict
