pub mod EndLemmas
pub mod PathLemmas
pub mod LinkLemmas
pub mod EndLaws
pub mod FindEnds
pub mod ApartLaws
pub mod ThereLemmas
pub mod PlaceLemmas
