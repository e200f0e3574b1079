-- How the transactions of a survey pass an entry.
pub mod Begun
pub mod Ended
pub mod Hearing
pub mod Lasts
pub mod Passing
pub mod Taken
pub mod Unheard
pub mod Waiting
pub mod Watching
pub mod Wide
