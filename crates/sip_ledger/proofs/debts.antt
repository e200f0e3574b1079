-- The debts of a list of entries of which some are owed.
pub mod ListedLemmas
pub mod OwedLemmas
