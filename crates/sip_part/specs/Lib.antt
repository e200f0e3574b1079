pub mod Led
pub mod Part
