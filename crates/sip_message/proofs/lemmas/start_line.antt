-- How a start line is read.
pub mod OneWay
pub mod Reading
