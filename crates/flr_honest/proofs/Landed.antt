-- What a step changes of the bytes of objects, which parts of writing calls land by it, and what stays.
pub mod Lists
pub mod Writing
pub mod CopyWriting
pub mod Steps
pub mod Parting
pub mod Landing
pub mod Sending
pub mod NewBytes
pub mod Turning
pub mod Counting
pub mod Locking
pub mod Untouched
pub mod Own
pub mod Staying
