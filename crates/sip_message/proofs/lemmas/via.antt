-- How an element of Via is read, one part after another.
pub mod Transport
pub mod Closed
pub mod Steps
pub mod Protocol
pub mod Host
pub mod Value
pub mod Elements
