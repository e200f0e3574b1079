-- What bytes say by the definitions is what their reading says.
pub mod Alike
pub mod Names
pub mod Bytes
pub mod Told
pub mod Reading
pub mod Canonical
