pub mod DecidedLemmas
pub mod GatherLemmas
pub mod MoreLemmas
pub mod PartsLemmas
pub mod RunLemmas
pub mod ShortLemmas
pub mod StartLemmas
pub mod WordLemmas
