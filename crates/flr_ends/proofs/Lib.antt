pub mod Totals
pub mod Calls
pub mod Ranges
pub mod Others
pub mod Fares
pub mod Prices
pub mod Ends
