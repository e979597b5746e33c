-- What copies and merges have in hand, and what they know of bytes after the steps of others.
pub mod Going
pub mod Destinations
pub mod Sourced
pub mod Chunks
pub mod Objects
pub mod Puts
pub mod Keeping
pub mod Own
pub mod Untouched
pub mod Others
pub mod OthersSay
pub mod MergesSay
pub mod Distinct
pub mod Planning
pub mod Fits
