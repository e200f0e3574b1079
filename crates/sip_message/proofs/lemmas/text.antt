-- Sets of texts: those without blanks, repetitions, and what a set keeps where blanks change.
pub mod Cuts
pub mod Each
pub mod Closed
pub mod Ends
pub mod Solid
pub mod Items
pub mod Says
