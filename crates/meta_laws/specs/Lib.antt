pub mod Calls
pub mod Layouts
pub mod Numbers
pub mod Laws
