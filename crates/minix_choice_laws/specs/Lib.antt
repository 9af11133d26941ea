pub mod Chosen
pub mod FillLaws
pub mod Sources
pub mod Choice
pub mod Growth
pub mod ChoiceLaws
pub mod Apart
