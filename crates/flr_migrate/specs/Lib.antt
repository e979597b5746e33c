pub mod Migrations
pub mod Outcomes
