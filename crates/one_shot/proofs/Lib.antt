pub mod ShotLemmas
