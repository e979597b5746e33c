pub mod Worlds
pub mod Answers
pub mod Reports
pub mod Counts
pub mod Claims
