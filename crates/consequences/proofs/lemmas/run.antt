-- What holds of the runs of every machine.
pub mod Running
pub mod Lists
pub mod MustSend
