pub mod CopyLaws
mod DifferLaws
pub mod FileLaws
pub mod LeftLaws
pub mod ToldLaws
pub mod ToldRun
