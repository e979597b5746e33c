-- No step takes a call from the log of a target.
pub mod Outcomes
pub mod ReadSteps
pub mod WriteSteps
pub mod CopySteps
pub mod Commands
pub mod Rises
