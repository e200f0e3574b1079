-- How a head is found, and cut into its lines.
pub mod Scan
pub mod OneWay
pub mod HeadEnd
pub mod Reading
