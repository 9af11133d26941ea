pub mod File
pub mod Load
pub mod Reading
pub mod View
