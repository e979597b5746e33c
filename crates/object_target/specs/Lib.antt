pub mod Fails
pub mod Objects
pub mod TargetState
pub mod Calls
pub mod Results
pub mod Lending
