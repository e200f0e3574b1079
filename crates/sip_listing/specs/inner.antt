-- How the code has the words of a listing.
pub mod FieldWords
pub mod StateLine
