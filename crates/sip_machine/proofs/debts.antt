-- What states owe and name: a payment, rows that owe nothing, the messages that are named, and the debt that is looked for.
pub mod DueLemmas
pub mod DuesEachLemmas
pub mod NamesLemmas
