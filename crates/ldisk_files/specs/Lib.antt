pub mod Answer
pub mod Left
pub mod Made
pub mod Marks
pub mod Inode
pub mod Stored
pub mod Freed
