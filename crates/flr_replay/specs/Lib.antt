pub mod Following
pub mod Lines
pub mod Replays
pub mod Outcomes
