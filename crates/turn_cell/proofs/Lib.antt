pub mod Fronts
pub mod PlaceLists
pub mod Keeps
