-- How calls are answered where nothing goes wrong.
pub mod Online
pub mod Quiet
pub mod Ready
pub mod Refused
pub mod Caused
pub mod Still
pub mod Copying
pub mod Answers
