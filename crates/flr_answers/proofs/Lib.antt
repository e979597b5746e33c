pub mod Counting
pub mod Leading
pub mod Metas
pub mod Calls
pub mod Copies
pub mod Steps
pub mod Runs
