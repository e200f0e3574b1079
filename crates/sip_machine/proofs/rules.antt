-- What follows of the rows of the machines.
pub mod Rows3261
pub mod RuleLaws
