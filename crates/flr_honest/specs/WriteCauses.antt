-- Why writes and truncates are answered as they are.
pub mod Stages
pub mod Laws
pub mod Again
pub mod LostCommits
