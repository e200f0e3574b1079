-- The canonical form in which a message is written.
pub mod Unfolding
pub mod Fields
pub mod Spelling
pub mod Law
