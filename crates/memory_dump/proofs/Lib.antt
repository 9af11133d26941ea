pub mod DumpLemmas
