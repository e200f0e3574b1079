-- How a field line is read, and the names of fields.
pub mod OneWay
pub mod Name
pub mod Spelled
pub mod FullName
pub mod Named
