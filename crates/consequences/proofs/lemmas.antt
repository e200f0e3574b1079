-- The lemmas of the laws: of runs, of clients, of servers, and of tolerances.
pub mod run
pub mod client
pub mod server
pub mod tolerance
