pub mod Ending
pub mod Failures
pub mod Reading
pub mod WordFor
