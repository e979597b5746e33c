pub mod Files
pub mod Leading
pub mod Calls
pub mod Copies
pub mod Steps
pub mod Runs
