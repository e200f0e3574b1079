-- The set of a key, whichever machine it has.
pub mod KeySetLaws
pub mod AnyLemmas
pub mod ByMachine
pub mod StartLemmas
pub mod TablesLemmas
pub mod QuietLemmas
pub mod NamesLemmas
