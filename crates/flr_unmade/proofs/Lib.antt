pub mod Targets
pub mod Pieces
pub mod Calls
pub mod Copies
pub mod Steps
pub mod Keeping
pub mod Runs
