pub mod Commands
pub mod Generator
pub mod Reading
pub mod RunWords
pub mod Scripts
pub mod Texts
pub mod Work
