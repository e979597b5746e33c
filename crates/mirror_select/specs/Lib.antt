pub mod Candidates
pub mod Pieces
pub mod Walking
pub mod Tails
pub mod Held
pub mod Laws
