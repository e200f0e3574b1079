pub mod Answers
pub mod Asked
pub mod Failures
pub mod PartWords
pub mod Status
pub mod Together
