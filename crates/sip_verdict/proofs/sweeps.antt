-- Which messages are named still, and that the others can be dropped.
-- what follows the entries follows one entry more, and follows them after a sweep
pub mod FollowedLemmas
-- the sets name just the messages that the runs name
pub mod NamedLemmas
-- the newest message can be dropped where no set names it
pub mod NewestLemmas
-- each message of a book that was swept was kept before
pub mod SweptBook
-- in a sweep the sets wait, and lead to the same runs
pub mod SweptSets
-- after a sweep the tables follow the same entries
pub mod SweptTables
-- when the transactions of an entry may name a message
pub mod MayNameLemmas
