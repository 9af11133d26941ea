pub mod BytesLemmas
pub mod MadeLemmas
pub mod MakeLemmas
pub mod TrackLemmas
