pub mod Sparing
pub mod Tracing
pub mod Keeping
pub mod Latest
pub mod Runs
