pub mod Left
pub mod MergeLeft
pub mod Nothing
