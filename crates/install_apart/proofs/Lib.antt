mod ApartLemmas
pub mod NoZeroLemmas
mod OwnLemmas
