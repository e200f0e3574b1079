-- Lists of any elements.
pub mod EachOnce
pub mod Kept
pub mod Listed
pub mod Places
pub mod Twice
