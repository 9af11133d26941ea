pub mod DiskLemmas
pub mod ReaderLemmas
