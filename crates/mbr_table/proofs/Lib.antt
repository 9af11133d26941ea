pub mod ChainLemmas
pub mod DeviceLemmas
pub mod EndLemmas
pub mod GivesLemmas
pub mod ListedLemmas
pub mod LogicalLemmas
pub mod NameLemmas
pub mod ToldLemmas
