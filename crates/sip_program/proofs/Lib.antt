pub mod AnswerLemmas
pub mod AskedLemmas
