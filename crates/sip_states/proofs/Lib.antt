pub mod due
pub mod keyed
pub mod lists
pub mod runs
pub mod sets
