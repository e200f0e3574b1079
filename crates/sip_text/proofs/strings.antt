-- Blank runs and quoted strings.
pub mod BlanksLemmas
pub mod QuotedLemmas
