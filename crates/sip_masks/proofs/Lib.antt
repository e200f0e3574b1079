pub mod BitLemmas
pub mod LaneLemmas
pub mod TableLemmas
pub mod KindLemmas
pub mod WordLemmas
pub mod RunLemmas
pub mod HostLemmas
pub mod HostWordLemmas
