-- The states of a pool: how they are kept, what many give, the first of equal ones, and the prints by which these are found.
pub mod PoolLemmas
pub mod PoolEachLemmas
pub mod CoversLemmas
pub mod FirstLemmas
pub mod SlotsLemmas
