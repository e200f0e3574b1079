-- What is read from the front of a text.
pub mod Prefix
pub mod Cuts
pub mod OneWay
pub mod Led
