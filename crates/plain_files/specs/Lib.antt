pub mod Files
pub mod Effects
pub mod Histories
