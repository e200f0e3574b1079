-- What an answer of a reader says, and what its caller knows of the whole input.
pub mod CallerLemmas
pub mod NextLemmas
pub mod NextRead
pub mod PassLemmas
pub mod ReadingLemmas
pub mod SaysLemmas
pub mod StreamLemmas
pub mod ToldLemmas
