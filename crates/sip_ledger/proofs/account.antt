-- What one account owes, and how it loses a debt or gains one.
pub mod AccountLemmas
pub mod FindLemmas
pub mod ToldLemmas
pub mod WithoutLemmas
