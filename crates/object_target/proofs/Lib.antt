pub mod FailsLaws
pub mod ObjectsLaws
pub mod CallsLaws
