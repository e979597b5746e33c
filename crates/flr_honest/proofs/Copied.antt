-- What copies and merges know of bytes after each step of theirs.
pub mod Destinations
pub mod Chunks
pub mod Following
pub mod Once
pub mod Putting
pub mod Emptying
pub mod Taking
pub mod Standing
pub mod OwnCopies
pub mod OwnMeta
pub mod OwnMerges
pub mod OwnSteps
