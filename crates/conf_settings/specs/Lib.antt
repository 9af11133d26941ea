pub mod Row
pub mod Step
pub mod View
