-- Which debts an ACK pays: the Tos beside messages, and the messages under their Tos.
pub mod ToLemmas
pub mod HolderLemmas
