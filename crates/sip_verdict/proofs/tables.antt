-- Tables of sets follow the entries.
-- what is known while an entry passes and some sets are still to hear it
pub mod Halfway
-- which entry may be taken first, and which one next
pub mod JudgeTables
-- what the sets name once they have waited is what is named in the log
pub mod NamedTables
-- the sets hear the event of an entry, one after another
pub mod TablesPassing
-- the keys of an entry are looked up in the tables
pub mod TablesTouching
-- what is kept of transactions before and after an entry passes them
pub mod TrackingLemmas
