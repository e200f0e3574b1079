-- The messages that a book keeps, the order and the runs of their places, their numbers between two bounds, which messages stay, and the newest one.
pub mod TextLaws
pub mod HashLaws
pub mod OrderLaws
pub mod RunLaws
pub mod BesideLemmas
pub mod RetainLemmas
pub mod NewestLaws
