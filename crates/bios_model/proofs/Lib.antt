pub mod HeldLemmas
pub mod MemoryLemmas
pub mod Reading
pub mod WriteLemmas
