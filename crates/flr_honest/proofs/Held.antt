-- What fresh components hold after each step.
pub mod Staying
pub mod Kept
pub mod Unmade
pub mod Filled
pub mod Adding
pub mod SplitOff
pub mod Ends
pub mod Cleared
pub mod TakenIn
pub mod Following
