pub mod SentByLemmas
pub mod SolidLemmas
pub mod ConcernLemmas
pub mod AckOfLemmas
pub mod MethodLemmas
pub mod HashLemmas
pub mod KeyLemmas
