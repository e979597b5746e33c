pub mod Equals
pub mod HeadLaws
pub mod Stops
pub mod FollowLaws
pub mod CallLaws
