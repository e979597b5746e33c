pub mod Frames
pub mod Hands
pub mod Calls
pub mod Copies
pub mod Sentences
pub mod Laws
