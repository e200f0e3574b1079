-- How a message is read, from its texts to what it says.
pub mod text
pub mod front
pub mod lines
pub mod start_line
pub mod field
pub mod value
pub mod params
pub mod address
pub mod via
pub mod asked
pub mod message
pub mod canon
pub mod says
