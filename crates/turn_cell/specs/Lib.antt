pub mod Schedules
pub mod Places
pub mod Seats
pub mod Views
pub mod Rule
pub mod Tries
