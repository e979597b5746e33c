pub mod GotLaws
pub mod Readable
pub mod LeftLaws
pub mod RightTakes
pub mod UnderWay
pub mod ToldLaws
pub mod EndLaws
