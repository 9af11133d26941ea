pub mod AskLemmas
pub mod LastLemmas
pub mod LawLemmas
pub mod ShowLemmas
pub mod SilenceLemmas
pub mod TaleLemmas
