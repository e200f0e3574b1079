-- How the states of an entry are listed.
-- the text of an entry's transactions is the one that is asked for
pub mod EntryText
-- the lines of a set's states are those of a listing
pub mod ListingLemmas
-- messages have the number of the first entry with their bytes
pub mod NumberingLemmas
-- what an answer of the reader adds, where entries are counted anew
pub mod StreamingLemmas
-- what an answer of the reader adds to the entries that were read
pub mod WalkingLemmas
-- what a walk adds to the entries that were judged, and what it answers
pub mod WalksLemmas
