-- How the states of a set wait, and take an event.
pub mod Advancing
pub mod Following
pub mod Stepping
pub mod Taking
pub mod Waiting
