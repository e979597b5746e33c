-- How a lease came to be broken.
pub mod Origins
pub mod Tables
pub mod Walking
pub mod Breaking
pub mod Owning
pub mod Fresh
pub mod Keys
pub mod Lasts
pub mod Copying
pub mod Merging
