-- Why verifies are answered as they are.
pub mod Ascending
pub mod Bytes
pub mod BlockBytes
pub mod BlockDifferences
pub mod Differences
pub mod Doings
pub mod Reading
pub mod Walking
pub mod Walked
pub mod Answers
pub mod Refusing
pub mod Others
pub mod OtherCommands
