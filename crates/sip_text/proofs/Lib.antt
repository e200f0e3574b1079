pub mod texts
pub mod cuts
pub mod strings
pub mod hosts
pub mod uris
