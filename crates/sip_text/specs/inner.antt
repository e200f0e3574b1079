pub mod Case
pub mod Class
pub mod Cut
pub mod Pieces
pub mod Blanks
pub mod Quoted
pub mod HostTests
pub mod UriCut
