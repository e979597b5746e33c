-- What each step of a run changes.
pub mod Objects
pub mod AskedWrites
pub mod Asking
pub mod CopyAsking
pub mod Commands
pub mod Steps
pub mod Losing
pub mod Evictions
pub mod Staying
pub mod Turning
pub mod Cases
pub mod Becoming
pub mod Changing
pub mod Files
pub mod Clearing
