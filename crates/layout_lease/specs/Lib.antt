pub mod Clients
pub mod Shares
pub mod Leases
pub mod Events
