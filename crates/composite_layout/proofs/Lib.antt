pub mod Steps
pub mod Good
pub mod Tiling
pub mod New
