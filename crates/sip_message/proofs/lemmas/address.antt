-- How an address of From or To is read.
pub mod Uri
pub mod Reading
