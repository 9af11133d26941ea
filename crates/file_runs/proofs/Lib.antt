pub mod MappedLemmas
pub mod NeededLemmas
pub mod PlacesLemmas
