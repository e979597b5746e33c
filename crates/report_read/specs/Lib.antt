pub mod Files
pub mod Schedules
