mod OwnLemmas
mod SmallLemmas
