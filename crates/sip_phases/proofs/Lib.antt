pub mod debts
pub mod states
pub mod phases
