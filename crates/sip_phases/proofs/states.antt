-- A figure has what the rules of a machine ask for, and states have what their phases have.
pub mod FigureLaws
pub mod OwingLaws
