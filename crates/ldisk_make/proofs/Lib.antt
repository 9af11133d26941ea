pub mod EntryLemmas
pub mod MakeLemmas
pub mod TableLemmas
pub mod VolumeLemmas
