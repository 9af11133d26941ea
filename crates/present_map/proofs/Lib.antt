pub mod ClearLemmas
pub mod FollowLemmas
pub mod HolderLemmas
pub mod MapLemmas
pub mod NumbersLemmas
pub mod OldLemmas
pub mod ZonesLemmas
