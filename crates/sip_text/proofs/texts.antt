-- Bytes of a class, runs of them, texts joined by a mark, and repetitions.
pub mod BlockLemmas
pub mod ClassLemmas
pub mod GroupLemmas
pub mod JoinedLemmas
pub mod LacksLemmas
pub mod ManyLemmas
pub mod OneLaws
pub mod RunLemmas
