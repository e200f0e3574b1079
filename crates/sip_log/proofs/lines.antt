-- How the line of an entry and its message are found among the bytes that are held.
pub mod AheadLemmas
pub mod FrontLemmas
pub mod LineLemmas
pub mod MessageLemmas
pub mod SplitLemmas
pub mod WindowLemmas
