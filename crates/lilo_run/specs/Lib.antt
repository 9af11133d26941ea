pub mod Install
pub mod Laws
pub mod Line
pub mod Refusal
pub mod Run
pub mod Turn
pub mod Verdict
