-- A survey forgets transactions that are over, and finds the same of the others.
pub mod Forgetting
pub mod Forgotten
pub mod IdleAgain
pub mod Lasting
pub mod Never
pub mod Onward
pub mod Quiet
pub mod Remembered
pub mod Waited
