mod Answered
mod AskedLemmas
mod Slashes
mod StatusLemmas
mod Together
