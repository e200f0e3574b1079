-- What clients send, and when they end.
pub mod InviteClients
pub mod Unanswered
pub mod Acknowledging
pub mod Once
pub mod Repeating
pub mod TimerF
