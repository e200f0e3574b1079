-- The steps of one state, and of many states of one phase; what the rows of servers add; no answer, one, or two; and which bytes are a 100.
pub mod OwingSteps
pub mod OwingEachLemmas
pub mod RepliesLemmas
pub mod SingleLemmas
pub mod BothLemmas
pub mod ProvisionalLemmas
