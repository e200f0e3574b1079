-- the runs of one key, and the set that leads to them
pub mod keys
-- the tables of sets follow the entries
pub mod tables
-- which messages are named still, and that the others can be dropped
pub mod sweeps
-- how a judge observes, judges and ends
pub mod judges
-- there is one verdict on each input, and what it says
pub mod verdicts
-- how the states of an entry are listed
pub mod listings
-- how a log is shown
pub mod shows
-- what a survey finds, keeps, forgets and writes
pub mod surveys
