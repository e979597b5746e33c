pub mod Single
pub mod Layouts
pub mod Files
pub mod Calls
pub mod Keeping
pub mod Copied
pub mod InHand
