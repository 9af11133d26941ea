pub mod NumberLemmas
pub mod PartLemmas
pub mod AskedLemmas
pub mod GrammarLemmas
