-- How the code has machines, sets and tables.
pub mod KeySets
pub mod Lines
pub mod Ways
pub mod Marks
pub mod Advance
pub mod Touching
