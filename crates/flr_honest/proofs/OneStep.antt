-- Commands of one step.
pub mod Asking
pub mod Answering
