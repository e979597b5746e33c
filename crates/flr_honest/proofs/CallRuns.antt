-- The calls of a run are runs of their calls.
pub mod OneMore
pub mod Staying
pub mod Extending
pub mod Stepping
pub mod Runs
pub mod Entries
pub mod Before
pub mod AnsweredAtOnce
pub mod RefusalsFirst
