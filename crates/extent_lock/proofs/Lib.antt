pub mod Members
pub mod Firsts
pub mod Decided
pub mod LockLaws
