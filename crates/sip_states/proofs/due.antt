-- Which sets wait, are marked, or have a last moment that is past.
pub mod AgendaLemmas
pub mod AdvanceLemmas
pub mod MarksLemmas
