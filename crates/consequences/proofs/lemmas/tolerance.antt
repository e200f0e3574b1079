-- What a wider tolerance keeps, machine by machine.
pub mod Moments
pub mod Wider
pub mod Sorted
pub mod InviteClients
pub mod PlainClient
pub mod InviteServers
pub mod PlainServer
pub mod AllWider
pub mod SeenKinds
