pub mod Fronts
pub mod lemmas
