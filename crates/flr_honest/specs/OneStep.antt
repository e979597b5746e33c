-- Commands of one step.
pub mod Sentences
