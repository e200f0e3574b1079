-- There is one verdict on each input, and what it says.
-- logs that say the same have the same verdict, whatever their headers are
pub mod FormatLaws
-- each input has a verdict
pub mod HasVerdict
-- the messages of a legal log are of the grammar
pub mod LegalMessages
-- what a legal verdict says of a log
pub mod LegalRuns
-- only one thing is observed of an entry
pub mod MessageUnique
-- an input has one verdict
pub mod OneVerdict
-- the outcomes of two groups of keys, joined
pub mod Outcomes
-- there is at most one verdict on an entry
pub mod Unique
