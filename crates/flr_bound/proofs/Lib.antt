pub mod Outcomes
pub mod ReadSteps
pub mod WriteSteps
pub mod CopySteps
pub mod Commands
pub mod Coming
pub mod Runs
pub mod Rooms
