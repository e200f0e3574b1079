-- The numbers of a log, as digits and as values.
pub mod DecimalLemmas
pub mod DigitLemmas
pub mod NumberLemmas
