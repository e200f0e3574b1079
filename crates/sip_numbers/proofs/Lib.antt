pub mod WordLemmas
pub mod PlaceLemmas
pub mod BothLemmas
