-- The definitions in which contracts speak of what a book holds, of states, and of rules of machines. How the code has phases stands in `inner`.
pub mod Texts
pub mod Told
pub mod Rules
pub mod Deadlines
pub mod Owes
pub mod FigureRules
pub mod Owing
pub mod inner
