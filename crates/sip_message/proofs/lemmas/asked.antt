-- What is kept of the fields that are asked for.
pub mod Asked
pub mod Kept
pub mod Parts
pub mod OneWay
