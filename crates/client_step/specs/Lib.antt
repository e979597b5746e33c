pub mod Callers
pub mod Free
