pub mod Tiling
pub mod Selected
pub mod Stages
pub mod Leading
pub mod Begins
pub mod Keeping
pub mod Runs
