-- A text is cut at a mark in one way.
pub mod CutLemmas
pub mod DoubleLemmas
pub mod EndLemmas
pub mod LastLemmas
pub mod RunCutLemmas
