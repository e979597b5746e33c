pub mod Phases
pub mod Sentences
pub mod Laws
