pub mod CountLemmas
pub mod LeftLemmas
pub mod PassLemmas
pub mod SectorLemmas
