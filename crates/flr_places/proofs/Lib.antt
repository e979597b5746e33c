pub mod Steps
pub mod CopySteps
pub mod Commands
pub mod Calls
pub mod Opened
pub mod Keeping
pub mod Runs
