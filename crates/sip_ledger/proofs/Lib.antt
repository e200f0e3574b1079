pub mod account
pub mod debts
pub mod gains
pub mod lists
pub mod rows
pub mod strikes
pub mod Lemmas
pub mod Words
