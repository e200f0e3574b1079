pub mod Few
pub mod SameKey
