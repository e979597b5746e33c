pub mod Leading
pub mod Reading
pub mod Writing
pub mod Keeping
pub mod Losing
pub mod Runs
