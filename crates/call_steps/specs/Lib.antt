pub mod Servers
pub mod Steps
pub mod Runs
pub mod Pieces
