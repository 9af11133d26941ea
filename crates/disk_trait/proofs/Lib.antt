pub mod MomentLemmas
pub mod RangeLemmas
pub mod LawLemmas
pub mod NotWrittenLemmas
pub mod CallLemmas
pub mod Changed
pub mod LeftLemmas
pub mod ToldLemmas
