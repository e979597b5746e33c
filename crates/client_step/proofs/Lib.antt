pub mod AtOnceLaws
pub mod WiderLaws
