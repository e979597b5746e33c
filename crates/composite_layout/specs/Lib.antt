pub mod FlagChanges
pub mod Layouts
pub mod LookUps
pub mod Specs
pub mod Making
pub mod Choices
