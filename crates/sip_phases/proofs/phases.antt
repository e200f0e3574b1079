-- What holds of the phases of each machine, as the code has them.
pub mod CodedLaws
pub mod MessageLaws
pub mod WaitingLaws
pub mod PlainClientLaws
pub mod PlainServerLaws
pub mod InviteClientLaws
pub mod InviteServerLaws
pub mod InviteClient3261Laws
pub mod InviteServer3261Laws
