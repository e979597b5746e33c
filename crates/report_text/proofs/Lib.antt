pub mod Parts
pub mod RunWords
pub mod Writes
