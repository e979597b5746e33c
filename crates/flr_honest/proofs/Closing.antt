-- What each step leaves of the bytes of the plain files.
pub mod Asking
pub mod Sized
pub mod Lists
pub mod Ranges
pub mod Tails
pub mod Ready
pub mod Doings
pub mod Outcomes
pub mod Written
pub mod Cut
pub mod Effects
pub mod Steps
pub mod Files
pub mod Writes
pub mod Cuts
pub mod Closing
pub mod Readying
