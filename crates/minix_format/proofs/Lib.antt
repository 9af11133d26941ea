pub mod MapLemmas
pub mod LayoutLemmas
pub mod SectorLemmas
pub mod FormatLemmas
pub mod WriteLemmas
mod Cases
mod ByteCases
