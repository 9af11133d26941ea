pub mod LeftLemmas
pub mod PlaceLaws
pub mod RoseLemmas
pub mod SectionLaws
pub mod TurnLemmas
