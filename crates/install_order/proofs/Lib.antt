pub mod Holder
mod MapFiles
mod MapSections
pub mod WholeMap
pub mod CommitLemmas
pub mod RefuseLemmas
pub mod PlanLemmas
pub mod NamedLemmas
pub mod ExamineLemmas
pub mod BeginLemmas
pub mod SurveyedLemmas
pub mod AnswerLemmas
pub mod DeviceLemmas
pub mod WishedLemmas
pub mod StageLemmas
pub mod ReadyLemmas
pub mod StagingLemmas
pub mod StagedLemmas
pub mod CommittedLemmas
