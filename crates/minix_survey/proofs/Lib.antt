mod AllLemmas
mod CarryLemmas
mod CycleLemmas
mod GivenLemmas
mod JudgeLemmas
mod PlaceLemmas
mod ReadLemmas
mod RefusedLemmas
mod RootLemmas
mod StepLemmas
mod TableLemmas
mod ZoneLoop
pub mod SoundLemmas
