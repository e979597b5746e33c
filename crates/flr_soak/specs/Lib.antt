pub mod Soaking
pub mod Trying
pub mod Counts
pub mod Kinds
pub mod Drawn
pub mod Outcomes
