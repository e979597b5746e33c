-- How calls are answered where nothing goes wrong.
pub mod Wells
