pub mod Ascending
pub mod WordLaws
pub mod AnswerLaws
pub mod LineLaws
