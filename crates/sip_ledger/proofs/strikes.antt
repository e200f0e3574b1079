-- Which gains the strikes of an account strike.
pub mod MovedLemmas
