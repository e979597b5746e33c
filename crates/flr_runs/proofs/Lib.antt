pub mod Knowing
pub mod Runs
