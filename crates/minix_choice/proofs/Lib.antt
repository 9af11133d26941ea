mod ChooseLemmas
mod DirectoryLemmas
mod FileLemmas
mod GrowthLemmas
mod PickLemmas
mod ZonesLemmas
