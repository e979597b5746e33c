pub mod Stripes
pub mod Layouts
pub mod Files
pub mod Steps
pub mod Calls
