pub mod BranchLemmas
pub mod HeldLemmas
pub mod HoleLemmas
pub mod PointerLemmas
pub mod PowerLemmas
pub mod QuotientLemmas
mod StopCases
pub mod StopLemmas
pub mod TurnLemmas
pub mod ReadLemmas
pub mod RunLemmas
pub mod SameLemmas
pub mod SectorLemmas
pub mod WalkLemmas
pub mod ZoneLemmas
pub mod WriteLemmas
