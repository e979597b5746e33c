pub mod Stretches
pub mod Judging
pub mod Told
pub mod Taken
