pub mod MeaningLemmas
pub mod PieceLemmas
pub mod ScanLemmas
pub mod TokensLemmas
