-- an order that a map keeps, and a text that was appended in pieces
pub mod LinesLemmas
-- the lines of a set's states, by what the code tells of them
mod StateLemmas
-- the debts of a state in words
mod FieldLemmas
