pub mod CursorLemmas
pub mod JoinLemmas
pub mod MadeLemmas
pub mod OwnPlaces
pub mod RunLemmas
