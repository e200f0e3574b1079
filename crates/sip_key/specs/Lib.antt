pub mod inner
pub mod OwnKey
