pub mod Ahead
pub mod Next
pub mod Reading
pub mod Stream
pub mod Told
pub mod Turn
pub mod Writing
pub mod inner
