pub mod RoomLemmas
pub mod RoomOfLemmas
pub mod BlockLemmas
pub mod FreeLemmas
pub mod KeptLemmas
pub mod MakingLemmas
