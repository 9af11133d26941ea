pub mod SameOn
pub mod Steps
