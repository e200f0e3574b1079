pub mod Acknowledged
pub mod Events
pub mod Front
pub mod Machines
pub mod Repeats
pub mod Servers
pub mod Tolerance
