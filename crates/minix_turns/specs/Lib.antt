pub mod Turns
pub mod Part
pub mod Inode
pub mod Names
pub mod Joined
pub mod Replace
