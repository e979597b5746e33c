-- What each step leaves of the plain files.
pub mod Begun
pub mod Victims
pub mod Keeping
pub mod Answering
pub mod Sizing
pub mod Outcomes
pub mod Reading
pub mod Ends
pub mod Writing
pub mod Copying
pub mod Commanding
pub mod Commanded
pub mod Sizes
pub mod Coming
