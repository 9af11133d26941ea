pub mod Fill
pub mod Marks
pub mod Numbers
pub mod Changes
pub mod Freed
