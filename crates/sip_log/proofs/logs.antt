-- Each input has a log, and only one.
pub mod LogExists
pub mod LogLaws
pub mod Logs
pub mod Streams
