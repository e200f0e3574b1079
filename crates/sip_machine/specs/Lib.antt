-- The definitions in which contracts speak of books, events, states, and rules of machines. How the code has these stands in `inner`.
pub use Rattle.sip_times.specs.Limits
pub use Rattle.sip_phases.specs.Texts
pub mod Told
pub mod NumberedEvent
pub use Rattle.sip_phases.specs.Rules
pub use Rattle.sip_phases.specs.Deadlines
pub use Rattle.sip_phases.specs.Owes
pub use Rattle.sip_phases.specs.FigureRules
pub use Rattle.sip_phases.specs.Owing
pub mod inner
pub mod Naming
pub mod Retained
