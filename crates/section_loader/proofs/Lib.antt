pub mod AgreementLemmas
pub mod FileLemmas
pub mod LoadLemmas
pub mod ReadingLemmas
pub mod RestLemmas
