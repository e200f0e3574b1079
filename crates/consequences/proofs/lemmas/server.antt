-- What servers send, before their final response and after it.
pub mod Asleep
pub mod Said
pub mod InviteServers
pub mod FirstResponse
pub mod FinalResponse
pub mod Passed
pub mod PlainServers
