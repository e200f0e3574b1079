pub mod Handed
pub mod Plain
pub mod Status
