pub mod Conflicts
pub mod Writers
pub mod Order
pub mod Extents
