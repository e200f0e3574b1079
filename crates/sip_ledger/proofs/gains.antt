-- Which gains are left, and whether deadlines rise over them.
pub mod LeftLemmas
pub mod QueueLemmas
