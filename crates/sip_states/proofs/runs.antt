-- The runs of machines, and what they send.
pub mod Reaching
pub mod Steps
pub mod RunLemmas
pub mod StandsLemmas
pub mod FewerLemmas
pub mod ClientLaws
pub mod ServerLaws
