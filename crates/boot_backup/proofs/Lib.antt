pub mod RestoreLemmas
