pub mod Pieces
pub mod Granting
pub mod ReadLocks
pub mod WriteLocks
pub mod CutLocks
pub mod Calls
pub mod Keeping
pub mod Runs
