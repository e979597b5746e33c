pub mod Views
pub mod Blocks
pub mod Findings
pub mod Verifies
pub mod Fitting
pub mod Left
pub mod Told
