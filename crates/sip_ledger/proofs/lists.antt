-- Lists of any elements.
pub mod EachLemmas
