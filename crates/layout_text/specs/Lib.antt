pub mod Appending
pub mod Texts
pub mod Viable
pub mod LineWords
pub mod Spelling
