pub mod Heads
pub mod Following
pub mod Calls
