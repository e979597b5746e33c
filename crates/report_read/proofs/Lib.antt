pub mod FileLaws
pub mod RunWords
pub mod ScheduleLaws
