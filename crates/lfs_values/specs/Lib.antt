pub mod Answers
pub mod Causes
pub mod DistinctItems
pub mod FlagLists
pub mod Keys
pub mod MirrorIds
pub mod Values
