-- How the parameters of a value are read, one after another.
pub mod Closed
pub mod Reading
pub mod Value
pub mod Branch
pub mod Said
