-- How a log is shown.
-- what is shown of the entries that were read
pub mod ShowingLemmas
