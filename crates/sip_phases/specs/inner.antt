-- What a machine must show of its phases, and how the code has those of each of the six.
pub mod Coded
pub mod Waiting
pub mod PlainClient
pub mod PlainServer
pub mod InviteClient
pub mod InviteServer
pub mod InviteClient3261
pub mod InviteServer3261
