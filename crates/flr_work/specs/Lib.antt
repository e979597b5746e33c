pub mod Paying
pub mod Known
pub mod Left
pub mod Laws
