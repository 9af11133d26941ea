pub mod Parts
pub mod SlotAgain
pub mod Texts
pub mod BootAgain
pub mod EntryAgain
pub mod TableAgain
pub mod SectionAgain
