pub mod RunLaws
pub mod PieceLaws
pub mod Questions
