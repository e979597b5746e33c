pub mod PlaceLaws
pub mod TailLaws
pub mod CutLaws
