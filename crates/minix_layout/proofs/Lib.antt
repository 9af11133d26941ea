pub mod Written
pub mod Fields
pub mod Reading
pub mod Fits
