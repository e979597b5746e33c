-- Whichever answer has its cause is the only one.
pub mod Alone
