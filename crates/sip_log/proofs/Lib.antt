pub mod numbers
pub mod lines
pub mod headers
pub mod answers
pub mod logs
pub mod spelling
