pub mod BeginLemmas
