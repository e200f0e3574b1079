-- Hosts: names, IPv4 addresses and IPv6 addresses, each with its test.
pub mod HexLemmas
pub mod HostLemmas
pub mod HostnameLemmas
pub mod LabelLemmas
pub mod V4Lemmas
pub mod V6Lemmas
