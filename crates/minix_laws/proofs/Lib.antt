pub mod BareRoot
pub mod RootBytes
pub mod Given
pub mod Inside
pub mod FirstNamed
pub mod FindNames
pub mod WalkNames
pub mod Pointers
