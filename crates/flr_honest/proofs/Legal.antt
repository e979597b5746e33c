-- Each answer is one that the plain files allow, so every run is linear.
pub mod Outcomes
pub mod Files
pub mod Refusals
pub mod Reading
pub mod Writing
pub mod Verifying
pub mod Commands
pub mod Copying
pub mod Keys
pub mod Keeping
pub mod Asked
pub mod Steps
pub mod Histories
pub mod Runs
pub mod Staying
pub mod Seeing
