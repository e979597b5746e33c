pub mod Counts
pub mod Steps
pub mod Begins
pub mod MergeCounts
pub mod MergeSteps
pub mod Nothing
