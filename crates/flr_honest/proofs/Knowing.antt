-- What reads and verifies know after each step.
pub mod Lists
pub mod Covering
pub mod Closed
pub mod Pieces
pub mod Reading
pub mod InHand
pub mod Steps
pub mod Own
pub mod Others
pub mod Copies
pub mod Verifying
pub mod Keeping
pub mod VerifySteps
