pub mod Times
pub mod Limits
