-- What a survey keeps of the entries.
pub mod Histories
pub mod Kept
pub mod Swept
