-- The lemmas of this crate, by what they are of. The answers stand in folders of their own, as `proofs/book`.
pub mod texts
pub mod debts
pub mod pools
pub mod acks
pub mod steps
pub mod rules
pub mod Words
