pub mod Clash
pub mod ShowsLemmas
pub mod SinkLemmas
pub mod Unread
