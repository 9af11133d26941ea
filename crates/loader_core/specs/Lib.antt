pub mod Kernel
pub mod Laws
pub mod Leaves
pub mod Map
pub mod Report
pub mod Start
pub mod View
