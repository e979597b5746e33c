-- Why reads are answered as they are.
pub mod Causes
