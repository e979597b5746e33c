-- What is claimed of the answers of every run.
pub mod Sentences
pub mod Seeing
pub mod Laws
