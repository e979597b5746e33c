-- What each step of a run changes.
pub mod Laws
