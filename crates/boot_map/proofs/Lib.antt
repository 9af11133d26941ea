pub mod BootLemmas
pub mod FirstBelow
pub mod FlagLemmas
pub mod SlotLemmas
pub mod TableLemmas
pub mod TableWritten
