pub mod Did
pub mod Whole
pub mod Causes
pub mod Merged
