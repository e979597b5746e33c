-- Why copies of one file are answered as they are.
pub mod Sentences
