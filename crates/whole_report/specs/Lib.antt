pub mod Coming
pub mod Fronts
pub mod Reports
