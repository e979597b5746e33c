-- Where the fresh components come from that a step leaves.
pub mod Layouts
pub mod Files
pub mod Calls
pub mod Asking
pub mod CopySteps
pub mod Commands
pub mod Bringing
