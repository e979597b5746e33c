-- Whichever answer has its cause is the only one.
pub mod Refused
pub mod OneStep
pub mod Writing
pub mod Reading
pub mod Rising
pub mod MadeOnce
pub mod Verifying
pub mod Ascending
pub mod Copying
pub mod Broken
pub mod Merging
pub mod Differing
pub mod Differences
