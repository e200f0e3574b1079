pub mod Accounts
pub mod Debts
pub mod Entries
pub mod Runs
pub mod Lists
pub mod inner
