-- How the lines of a header are read.
pub mod HeaderLemmas
