-- What many rows owe, as contracts see them.
pub mod PaidLemmas
pub mod SeenLemmas
