-- How a whole message is read, stage by stage.
pub mod Stages
pub mod Ordinary
pub mod Body
pub mod Outcome
pub mod Faults
pub mod Total
pub mod Views
