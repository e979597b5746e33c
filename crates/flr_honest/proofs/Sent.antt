-- What each writing call has sent, in every run for whose steps there is room.
pub mod Parts
pub mod Sending
pub mod Cutting
pub mod Turning
pub mod Steps
pub mod Runs
