-- What callers do not see: the words of a set.
pub mod Numbers
