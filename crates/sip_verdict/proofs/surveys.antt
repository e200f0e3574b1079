-- How a survey finds, is cut into parts, lets entries pass, keeps, forgets and writes.
-- what a survey finds at each entry, and that each trouble is found once
pub mod found
-- a part of a log, and that it has the findings of its own keys
pub mod parts
-- how the transactions of a survey pass an entry
pub mod passing
-- what a survey keeps of the entries
pub mod kept
-- a survey forgets transactions that are over, and finds the same of the others
pub mod forgetting
-- what a survey writes, and when it forgets
pub mod written
