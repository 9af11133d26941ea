pub mod Cursor
pub mod Made
pub mod OwnPlaces
pub mod Runs
