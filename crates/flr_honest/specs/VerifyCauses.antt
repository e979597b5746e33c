-- Why verifies are answered as they are.
pub mod Sentences
