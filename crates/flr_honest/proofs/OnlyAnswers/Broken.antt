-- How the leases of copies came to be broken.
pub mod Once
