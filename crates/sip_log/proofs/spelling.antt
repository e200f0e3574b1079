-- What is written spells what is read of it.
pub mod PutsLemmas
pub mod SpellingLemmas
