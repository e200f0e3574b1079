-- What callers do not see: accounts over gains and strikes, and the names that inner contracts cite.
pub mod Accounts
pub mod Places
pub mod Words
