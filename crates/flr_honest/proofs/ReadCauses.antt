-- Why reads are answered as they are.
pub mod Since
pub mod Making
pub mod Lists
pub mod Counting
pub mod Opened
pub mod Known
pub mod Following
pub mod Logged
pub mod Answered
pub mod Causes
