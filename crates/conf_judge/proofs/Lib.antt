pub mod PartLemmas
pub mod PartsLemmas
pub mod PlaceLemmas
pub mod SectionLemmas
