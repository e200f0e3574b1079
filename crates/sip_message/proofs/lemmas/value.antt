-- How the values of fields are read.
pub mod Trimmed
pub mod Number
pub mod CSeq
pub mod CallId
pub mod Other
