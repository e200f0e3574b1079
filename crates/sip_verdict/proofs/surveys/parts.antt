-- A part of a log, and that it has the findings of its own keys.
pub mod Ahead
pub mod ByBranch
pub mod CutLogs
pub mod Cutting
pub mod PartFaults
pub mod PartLogs
pub mod Parts
pub mod Taking
