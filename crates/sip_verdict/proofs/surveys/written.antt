-- What a survey writes, and when it forgets.
pub mod Gathering
pub mod Horizons
pub mod Remembering
pub mod Writing
