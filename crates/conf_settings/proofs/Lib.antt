pub mod OptionLemmas
pub mod StepLemmas
