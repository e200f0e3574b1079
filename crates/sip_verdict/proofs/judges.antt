-- How a judge observes, judges and ends.
-- all transactions can wait until the earliest last moment on record
pub mod DueLemmas
-- what a judge holds after one entry more
pub mod JudgeLemmas
-- what the entries that were read say of the whole log
pub mod JudgingLemmas
-- what a judge is told of an entry is what is observed of it
pub mod ObservingLemmas
-- what is kept of the transactions before and after an entry is judged
pub mod StandingLemmas
