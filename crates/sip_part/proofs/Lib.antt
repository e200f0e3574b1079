-- from a field to the bytes of a message: a plain branch that is found is that of the top Via
pub mod Fields
-- the search goes on from line to line
mod Lines
-- the branch that is found in the value of a Via is that of its first element
mod Plain
-- where the search stops in the value of a Via
mod Stops
-- the table of bytes in lower case
mod Table
-- the branch by which a message falls into its part
pub mod Told
-- tokens at the front of a text
mod Tokens
